use Rattle.hearing.proofs.Ways.{send_ways}
use Rattle.hearing.proofs.steps.sent_by.Goals as goal

pub returns-in-Deferring : goal.returns-in-Deferring
returns-in-Deferring c = search send_ways

pub returns-in_default : goal.returns-in_default
returns-in_default c = search send_ways
