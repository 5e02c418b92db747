use Rattle.message.specs.Element.{element_of}
use mathlib.Core.Path.{◌∙◌, ap}
use Rattle.message.proofs.element.element_in.Goals as goal

pub returns : goal.returns
returns c = c.element_of.ensures ∙ ap element_of c.word_at.ensures
