use Rattle.std.proofs.Common.{arith, sym}
use Rattle.std.proofs.lemmas.Result.{err_from_is_err_and}
use Rattle.message.proofs.Accepted.{accepted, checked_whole, checked_fault}
use Rattle.message.proofs.reading.read.Goals as goal

pub fields_of-requires : goal.fields_of-requires
fields_of-requires c = let a = accepted _ _ (checked_whole _ _ c.check.ensures _ c.in_ok-checked.was) in omega (arith, a.sound.fits)

pub returns-in_err-checked : goal.returns-in_err-checked
returns-in_err-checked c = let p = err_from_is_err_and c.from_residual.result c.from_residual.ensures.1 in rw (p.1, p.2) (sym (checked_fault _ _ c.check.ensures _ c.in_err-checked.was))

pub returns : goal.returns
returns c = rw c.fields_of.ensures (sym (checked_whole _ _ c.check.ensures _ c.in_ok-checked.was))
