use Rattle.message.specs.Lists.{listed}
use Rattle.hearing.specs.Scan.{found_in}
use Rattle.message.specs.Reading.{map_of}
use Rattle.message.specs.Map.{intervals}
use Rattle.message.specs.Element.{element_at}
use Prim.Native.Nat.{◌-◌, ◌≤◌, ◌<◌}
use mathlib.Core.Path.{◌≡◌}
use Rattle.hearing.proofs.map.Map.find.Given as goal
use Rattle.std.specs.Prelude.{None}

abbrev pub invariant-loop-i : goal.invariant-loop-i
invariant-loop-i l =
    (l.self.reading.null < 240) × (l.i ≤ l.self.reading.null) × (l.found.bursts ≤ l.i)
    × (found_in l.self.reading.fields.start.0 l.sid l.r l.found (intervals (listed (element_at l.self.bytes.now) l.i (l.self.reading.n - l.i)))
    ≡ found_in l.self.reading.fields.start.0 l.sid l.r (record { bursts = 0; own = None }) (intervals (map_of l.self.bytes.now).elements))
