use Rattle.hearing.proofs.Ways.{send_ways}
use Rattle.hearing.proofs.steps.sent_in.Goals as goal

pub returns-in-Some : goal.returns-in-Some
returns-in-Some c = search send_ways

pub returns-in-None : goal.returns-in-None
returns-in-None c = search send_ways
