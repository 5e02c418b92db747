use Rattle.station.proofs.Ways.{record_ways}
use Rattle.station.proofs.record.Station.offer.Goals as goal

pub returns-in-Err : goal.returns-in-Err
returns-in-Err c = search record_ways

pub returns-in-Ok : goal.returns-in-Ok
returns-in-Ok c = search record_ways
