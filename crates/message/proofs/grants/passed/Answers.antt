use Rattle.message.proofs.Granting.{passed_other, passed_grant}
use Rattle.message.proofs.grants.passed.Goals as goal

pub returns-then-grants_sid : goal.returns-then-grants_sid
returns-then-grants_sid c = search passed_grant

pub returns : goal.returns
returns c = passed_other _ _ _ _ c.grants_sid.ensures c.if-grants_sid.false
