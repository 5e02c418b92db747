use mathlib.Core.Path.{◌∙◌}
use Rattle.message.specs.Element.{word_at}
use Rattle.message.proofs.element.word_at.Goals as goal

pub returns : goal.returns
unfolding word_at
returns c = let d = c.least_first.ensures in c.turned.ensures ∙ rw (d.0, d.1.0, d.1.1.0, d.1.1.1)
