use Rattle.rules.specs.Backoffs.{bad_backoffs}
use mathlib.Core.Path.{◌∙◌, ap}
use Rattle.message.proofs.fields.bad_backoffs_in.Goals as goal

pub returns : goal.returns
returns c = c.bad_backoffs.ensures ∙ ap bad_backoffs c.fields_of.ensures
