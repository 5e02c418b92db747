use Rattle.station.proofs.Ways.{record_ways}
use Rattle.station.proofs.record.bad_phase.Goals as goal

pub returns-in-Idle : goal.returns-in-Idle
returns-in-Idle c = search record_ways

pub returns-in-Wanting : goal.returns-in-Wanting
returns-in-Wanting c = search record_ways

pub returns-in-Deferring : goal.returns-in-Deferring
returns-in-Deferring c = search record_ways

pub returns-in-Waiting : goal.returns-in-Waiting
returns-in-Waiting c = search record_ways
