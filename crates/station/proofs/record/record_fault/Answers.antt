use Rattle.station.proofs.Ways.{record_ways}
use Rattle.station.proofs.record.record_fault.Goals as goal

pub returns-then-not-unicast : goal.returns-then-not-unicast
returns-then-not-unicast c = search record_ways

pub returns-then-bad_r : goal.returns-then-bad_r
returns-then-bad_r c = search record_ways

pub returns-then-bad_phase : goal.returns-then-bad_phase
returns-then-bad_phase c = search record_ways

pub returns : goal.returns
returns c = search record_ways
