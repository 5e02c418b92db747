use Rattle.std.proofs.lemmas.Result.{err_from_is_err_and}
use Rattle.writer.proofs.Stores.{write_done, write_refused}
use Rattle.writer.proofs.writing.write.Goals as goal

pub returns-in_err-size : goal.returns-in_err-size
returns-in_err-size c = let p = err_from_is_err_and c.from_residual.result c.from_residual.ensures.1 in rw (p.1, p.2) (write_refused _ _ _ _ c.decide.ensures _ c.in_err-size.was)

pub returns : goal.returns
returns c = write_done _ _ _ _ c.decide.ensures _ _ c.in_ok-size.was c.lay_out.ensures
