use Rattle.std.proofs.Common.{sym, ◌∙◌}
use Rattle.std.proofs.lemmas.Result.{err_from_is_err_and}
use Rattle.hearing.proofs.Ways.{hearable_record, hearable_message, hearable_map, hearable_good}
use Rattle.hearing.proofs.hearing.hearable.Goals as goal

pub returns-in_err-record_fault : goal.returns-in_err-record_fault
returns-in_err-record_fault c = let p = err_from_is_err_and c.from_residual.result c.from_residual.ensures.1 in rw (p.1, p.2) (hearable_record _ _ _ _ _ c.record_fault.ensures c.in_err-record_fault.was)

pub returns-in_err-reading : goal.returns-in_err-reading
returns-in_err-reading c = let p = err_from_is_err_and c.from_residual-in_err-reading.result c.from_residual-in_err-reading.ensures.1 in rw (p.1, p.2) (hearable_message _ _ _ (sym c.record_fault.ensures ∙ c.in_ok-record_fault.was) _ c.read.ensures _ c.in_err-reading.was)

pub returns-in_err-hear_fault : goal.returns-in_err-hear_fault
returns-in_err-hear_fault c = let p = err_from_is_err_and c.from_residual-in_err-hear_fault.result c.from_residual-in_err-hear_fault.ensures.1 in rw (p.1, p.2) (hearable_map _ _ _ (sym c.record_fault.ensures ∙ c.in_ok-record_fault.was) _ c.read.ensures _ c.in_ok-reading.was _ c.hear_fault.ensures _ c.in_err-hear_fault.was)

pub returns : goal.returns
returns c = hearable_good _ _ _ (sym c.record_fault.ensures ∙ c.in_ok-record_fault.was) _ c.read.ensures _ c.in_ok-reading.was _ c.hear_fault.ensures c.in_ok-hear_fault.was
