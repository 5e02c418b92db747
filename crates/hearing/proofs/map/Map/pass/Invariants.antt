use Rattle.hearing.specs.Scan.{passed_by}
use Rattle.hearing.specs.Opportunities.{contention_in, contention}
use Rattle.message.specs.Reading.{map_of}
use Rattle.message.specs.Map.{intervals}
use Rattle.message.specs.Lists.{listed, gather}
use Rattle.message.specs.Element.{element_at}
use Rattle.slots.specs.Time.{moved_on}
use Prim.Native.Nat.{◌-◌, ◌≤◌, ◌<◌}
use mathlib.Core.List.{map}
use mathlib.Core.Path.{◌≡◌}
use Rattle.hearing.proofs.map.Map.pass.Given as goal

abbrev pub invariant-loop-i : goal.invariant-loop-i
invariant-loop-i l =
    (l.self.reading.null < 240) × (l.i ≤ l.self.reading.null)
    × (passed_by (map (moved_on 32 l.start.0) (gather (contention_in l.r) (intervals (listed (element_at l.self.bytes.now) l.i (l.self.reading.n - l.i))))) l.left
    ≡ passed_by (contention l.r (map_of l.self.bytes.now)) l.fn.left)
