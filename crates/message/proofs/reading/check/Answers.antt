use Rattle.std.proofs.Common.{rules, arith, sym, ◌∙◌}
use Rattle.std.proofs.lemmas.Result.{err_from_is_err_and}
use Rattle.message.proofs.Ways.{header_sound, check_refused, check_whole, check_fault}
use Rattle.message.proofs.reading.check.Goals as goal

pub returns-in_err-header_fault : goal.returns-in_err-header_fault
returns-in_err-header_fault c = let p = err_from_is_err_and c.from_residual.result c.from_residual.ensures.1 in rw (p.1, p.2) (check_refused _ _ _ c.header_fault.ensures c.in_err-header_fault.was)

pub bounds-bytes-2 : goal.bounds-bytes-2
bounds-bytes-2 c = let h = header_sound _ (sym c.header_fault.ensures ∙ c.in_ok-header_fault.was) in search rules

pub walk-requires : goal.walk-requires
walk-requires c = let h = header_sound _ (sym c.header_fault.ensures ∙ c.in_ok-header_fault.was) in omega arith

pub returns-in_err-whole : goal.returns-in_err-whole
returns-in_err-whole c = let p = err_from_is_err_and c.from_residual-in_err-whole.result c.from_residual-in_err-whole.ensures.1 in rw (p.1, p.2) (check_fault _ _ _ (sym c.header_fault.ensures ∙ c.in_ok-header_fault.was) (search rules) c.walk.ensures _ c.in_err-whole.was)

pub returns : goal.returns
returns c = check_whole _ _ _ (sym c.header_fault.ensures ∙ c.in_ok-header_fault.was) (search rules) c.walk.ensures _ c.in_ok-whole.was
