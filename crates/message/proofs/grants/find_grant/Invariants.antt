use Rattle.message.specs.Grants.{kth_grant}
use Rattle.message.specs.Lists.{listed}
use Rattle.message.specs.Element.{element_at}
use Rattle.std.proofs.Common.{◌≡◌, ◌-◌, ◌≤◌}
use Rattle.message.proofs.grants.find_grant.Given as goal

abbrev pub invariant-loop-i : goal.invariant-loop-i
invariant-loop-i l = (l.i ≤ l.n) × ((l.e ≡ element_at l.bytes l.i) × (kth_grant (listed (element_at l.bytes) l.i (l.n - l.i)) l.sid l.left ≡ kth_grant (listed (element_at l.bytes) 0 l.n) l.sid l.k))
