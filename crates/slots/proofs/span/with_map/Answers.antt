use Rattle.slots.proofs.Spans.{ways}
use Rattle.slots.proofs.span.with_map.Goals as goal

pub returns-in-Nothing : goal.returns-in-Nothing
returns-in-Nothing c = search ways

pub returns-in-Lost : goal.returns-in-Lost
returns-in-Lost c = search ways

pub returns-in-Over : goal.returns-in-Over
returns-in-Over c = search ways
