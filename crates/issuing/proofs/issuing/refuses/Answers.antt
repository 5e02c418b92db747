use Rattle.issuing.proofs.Issues.{is_refused}
use Rattle.issuing.proofs.issuing.refuses.Goals as goal

pub returns : goal.returns
returns c = is_refused _ _ _ c.read.ensures c.is_err.ensures.value
