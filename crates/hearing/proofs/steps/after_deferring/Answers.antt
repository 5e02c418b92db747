use Rattle.hearing.proofs.Ways.{send_ways}
use Rattle.hearing.proofs.steps.after_deferring.Goals as goal

pub returns-in_default : goal.returns-in_default
returns-in_default c = search send_ways

pub returns-in-Break : goal.returns-in-Break
returns-in-Break c = search send_ways

pub returns-in-Continue : goal.returns-in-Continue
returns-in-Continue c = search send_ways
