use Rattle.slots.proofs.Spans.{ways}
use Rattle.slots.proofs.span.Span.add.Goals as goal

pub returns-then-length-gt-LONGEST_MAP : goal.returns-then-length-gt-LONGEST_MAP
returns-then-length-gt-LONGEST_MAP c = search ways

pub returns : goal.returns
returns c = search ways
