use mathlib.Core.Path.{◌∙◌, sym}
use Rattle.message.proofs.Ways.{beyond_short, beyond, element_there}
use borrow.Author.Rules.{rules}
use Rattle.message.proofs.element.element_at.Goals as goal

pub returns-then-bytes-lt20 : goal.returns-then-bytes-lt20
returns-then-bytes-lt20 c = beyond_short _ _ c.if-bytes-lt20.true

pub returns-then-bytes-i : goal.returns-then-bytes-i
returns-then-bytes-i c = beyond _ _ (search rules) c.if-bytes-i.true

pub returns : goal.returns
returns c = c.element_in.ensures ∙ sym (element_there _ c.args.i (search rules))
