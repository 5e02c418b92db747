use mathlib.Core.Path.{◌≡◌}
use mathlib.Core.Bool.{false}
use Prim.Native.Nat.{◌-◌, ◌≤◌}
use Rattle.rules.specs.Rules.{walked, nothing_yet}
use Rattle.message.specs.Lists.{listed}
use Rattle.message.specs.Element.{element_in}
use Rattle.message.proofs.reading.walk.Given as goal

abbrev pub invariant-loop-i : goal.invariant-loop-i
invariant-loop-i l = (l.p.closed ≡ false) × ((l.i ≤ l.n) × (walked l.i l.p (listed (element_in l.bytes) l.i (l.n - l.i)) ≡ walked 0 nothing_yet (listed (element_in l.bytes) 0 l.n)))

abbrev pub decreases-loop-i : goal.decreases-loop-i
decreases-loop-i l = l.n - l.i
