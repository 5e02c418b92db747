use Rattle.std.proofs.lemmas.Result.{err_from_is_err_and}
use Rattle.headend.proofs.Checks.{request_record, request_ways}
use Rattle.headend.proofs.request.request_fault.Goals as goal

pub returns-in_err-record_fault : goal.returns-in_err-record_fault
returns-in_err-record_fault c = let p = err_from_is_err_and c.from_residual.result c.from_residual.ensures.1 in rw (p.1, p.2) (request_record _ _ _ c.record_fault.ensures _ c.in_err-record_fault.was)

pub returns-then-bad_sid : goal.returns-then-bad_sid
returns-then-bad_sid c = let e = c.in_ok-record_fault.was in search request_ways

pub returns-then-bad_size : goal.returns-then-bad_size
returns-then-bad_size c = let e = c.in_ok-record_fault.was in search request_ways

pub returns-then-earlier : goal.returns-then-earlier
returns-then-earlier c = let e = c.in_ok-record_fault.was in search request_ways

pub returns-then-not-earlier : goal.returns-then-not-earlier
returns-then-not-earlier c = let e = c.in_ok-record_fault.was in search request_ways

pub returns-then-any_of : goal.returns-then-any_of
returns-then-any_of c = let e = c.in_ok-record_fault.was in search request_ways

pub returns-then-h-ge-MOST_HELD : goal.returns-then-h-ge-MOST_HELD
returns-then-h-ge-MOST_HELD c = let e = c.in_ok-record_fault.was in search request_ways

pub returns : goal.returns
returns c = let e = c.in_ok-record_fault.was in search request_ways
