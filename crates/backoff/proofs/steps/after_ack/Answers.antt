use Rattle.backoff.proofs.Ways.{step_ways, acknowledged_other}
use Rattle.backoff.proofs.steps.after_ack.Goals as goal

pub returns-then-pending : goal.returns-then-pending
returns-then-pending c = search step_ways

pub returns-then-earlier : goal.returns-then-earlier
returns-then-earlier c = search step_ways

pub returns-else-earlier : goal.returns-else-earlier
returns-else-earlier c = search step_ways

pub returns-in_default : goal.returns-in_default
returns-in_default c = acknowledged_other _ _ _ _ _ c.in_default.not-Waiting
