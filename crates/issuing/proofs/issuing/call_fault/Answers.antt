use Rattle.std.proofs.lemmas.Result.{err_from_is_err_and}
use Rattle.issuing.proofs.Issues.{fault_record, fault_ways}
use Rattle.issuing.proofs.issuing.call_fault.Goals as goal

pub returns-in_err-record_fault : goal.returns-in_err-record_fault
returns-in_err-record_fault c = let p = err_from_is_err_and c.from_residual.result c.from_residual.ensures.1 in rw (p.1, p.2) (fault_record _ _ _ _ _ _ c.record_fault.ensures _ c.in_err-record_fault.was)

pub returns-then-bad_ack : goal.returns-then-bad_ack
returns-then-bad_ack c = let e = c.in_ok-record_fault.was in search fault_ways

pub returns-then-bad_plan : goal.returns-then-bad_plan
returns-then-bad_plan c = let e = c.in_ok-record_fault.was in search fault_ways

pub returns-then-room-h : goal.returns-then-room-h
returns-then-room-h c = let e = c.in_ok-record_fault.was in search fault_ways

pub returns : goal.returns
returns c = let e = c.in_ok-record_fault.was in search fault_ways
