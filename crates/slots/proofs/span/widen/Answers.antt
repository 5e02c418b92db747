use Rattle.slots.proofs.Spans.{ways}
use Rattle.slots.proofs.span.widen.Goals as goal

pub returns-then-both : goal.returns-then-both
returns-then-both c = search ways

pub returns-then-both-2 : goal.returns-then-both-2
returns-then-both-2 c = search ways

pub returns : goal.returns
returns c = search ways
