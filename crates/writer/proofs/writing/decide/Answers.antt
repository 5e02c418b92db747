use Rattle.std.proofs.lemmas.Result.{err_from_is_err_and}
use Rattle.writer.proofs.Stores.{decided}
use Rattle.writer.proofs.writing.decide.Goals as goal

pub returns-then-n-eq0 : goal.returns-then-n-eq0
returns-then-n-eq0 c = search decided

pub returns-then-n-gt-MOST : goal.returns-then-n-gt-MOST
returns-then-n-gt-MOST c = search decided

pub returns-then-bad_backoffs : goal.returns-then-bad_backoffs
returns-then-bad_backoffs c = search decided

pub returns-in_err-walk : goal.returns-in_err-walk
returns-in_err-walk c = let p = err_from_is_err_and c.from_residual.result c.from_residual.ensures.1 in let e = c.in_err-walk.was in rw (p.1, p.2) (search decided)

pub returns : goal.returns
returns c = let e = c.in_ok-walk.was in search decided
