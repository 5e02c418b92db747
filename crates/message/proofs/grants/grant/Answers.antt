use Rattle.std.proofs.Common.{arith}
use Rattle.std.proofs.lemmas.Result.{err_from_is_err_and}
use Rattle.message.proofs.Accepted.{accepted, checked_whole, checked_fault}
use Rattle.message.proofs.Granting.{grant_refused, grant_read}
use Rattle.message.proofs.grants.grant.Goals as goal

pub fields_of-requires : goal.fields_of-requires
fields_of-requires c = let a = accepted _ _ (checked_whole _ _ c.check.ensures _ c.in_ok-checked.was) in omega (arith, a.sound.fits)

pub find_grant-requires : goal.find_grant-requires
find_grant-requires c = let a = accepted _ _ (checked_whole _ _ c.check.ensures _ c.in_ok-checked.was) in omega (arith, a.number, a.sound.fits)

pub returns-in_err-checked : goal.returns-in_err-checked
returns-in_err-checked c = let p = err_from_is_err_and c.from_residual.result c.from_residual.ensures.1 in rw (p.1, p.2) (grant_refused _ _ _ _ (checked_fault _ _ c.check.ensures _ c.in_err-checked.was))

pub returns : goal.returns
returns c = grant_read _ _ _ _ _ _ _ (checked_whole _ _ c.check.ensures _ c.in_ok-checked.was) c.fields_of.ensures c.find_grant.ensures c.granted_at.ensures
