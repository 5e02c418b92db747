use Rattle.hearing.proofs.Ways.{hear_ways}
use Rattle.hearing.proofs.hearing.stale.Goals as goal

pub returns-in-None : goal.returns-in-None
returns-in-None c = search hear_ways

pub returns-in-Some : goal.returns-in-Some
returns-in-Some c = search hear_ways
