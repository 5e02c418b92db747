use Rattle.message.specs.Fields.{fields_of}
use Rattle.message.proofs.fields.fields_of.Goals as goal

pub returns : goal.returns
unfolding fields_of
returns c = rw (← c.word_at.ensures, ← c.word_at-2.ensures)
