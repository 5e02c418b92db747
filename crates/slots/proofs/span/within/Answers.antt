use Rattle.slots.specs.Span.{within}
use Rattle.slots.proofs.span.within.Goals as goal

pub returns : goal.returns
unfolding within
returns c = rw c.ahead.ensures
