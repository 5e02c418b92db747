use Rattle.slots.proofs.Spans.{ways}
use Rattle.slots.proofs.span.further.Goals as goal

pub returns-then-ahead : goal.returns-then-ahead
returns-then-ahead c = search ways

pub returns : goal.returns
returns c = search ways
