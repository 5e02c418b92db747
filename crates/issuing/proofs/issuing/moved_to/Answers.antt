use Rattle.issuing.proofs.Issues.{moves}
use Rattle.issuing.proofs.issuing.moved_to.Goals as goal

pub returns : goal.returns
returns c = moves _ _ _ _ _ _ _ c.moved_on-next.ensures c.placed.ensures c.with_places.ensures
