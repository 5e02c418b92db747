use Rattle.std.proofs.lemmas.Result.{err_from_is_err_and}
use Rattle.station.proofs.Ways.{record_ways, offer_record}
use Rattle.station.proofs.offering.offer_fault.Goals as goal

pub returns-in_err-record_fault : goal.returns-in_err-record_fault
returns-in_err-record_fault c = let p = err_from_is_err_and c.from_residual.result c.from_residual.ensures.1 in rw (p.1, p.2) (offer_record _ _ _ c.record_fault.ensures _ c.in_err-record_fault.was)

pub returns-then-busy : goal.returns-then-busy
returns-then-busy c = let e = c.in_ok-record_fault.was in search record_ways

pub returns-then-bad_size : goal.returns-then-bad_size
returns-then-bad_size c = let e = c.in_ok-record_fault.was in search record_ways

pub returns : goal.returns
returns c = let e = c.in_ok-record_fault.was in search record_ways
