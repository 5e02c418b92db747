use Rattle.std.proofs.Common.{◌≡◌, ◌-◌, ◌≤◌}
use Rattle.rules.specs.Rules.{walked}
use Rattle.message.specs.Lists.{listed}
use Rattle.message.specs.Element.{element_in}
use Rattle.message.proofs.reading.walk_rest.Given as goal

abbrev pub invariant-loop-i : goal.invariant-loop-i
invariant-loop-i l = (l.i ≤ l.n) × (walked l.i l.p (listed (element_in l.bytes) l.i (l.n - l.i)) ≡ walked l.from l.p (listed (element_in l.bytes) l.from (l.n - l.from)))
