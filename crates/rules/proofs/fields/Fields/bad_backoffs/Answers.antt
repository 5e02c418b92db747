use Rattle.rules.specs.Backoffs.{bad_backoffs}
use Rattle.rules.proofs.fields.Fields.bad_backoffs.Goals as goal

pub returns : goal.returns
unfolding bad_backoffs
returns c = rw (c.bad.ensures, c.bad-2.ensures)
