use Rattle.hearing.proofs.Ways.{step_ways}
use Rattle.hearing.proofs.steps.after_grant.Goals as goal

pub returns-in-Waiting : goal.returns-in-Waiting
returns-in-Waiting c = search step_ways

pub returns-in_default : goal.returns-in_default
returns-in_default c = search step_ways

pub returns-then-not-pending : goal.returns-then-not-pending
returns-then-not-pending c = search step_ways
