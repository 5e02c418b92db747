use Rattle.hearing.proofs.Ways.{send_ways}
use Rattle.hearing.proofs.steps.waiting_since.Goals as goal

pub returns-in-Waiting : goal.returns-in-Waiting
returns-in-Waiting c = search send_ways

pub returns-in_default : goal.returns-in_default
returns-in_default c = search send_ways
