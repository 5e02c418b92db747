use Rattle.backoff.proofs.Ways.{step_ways, deferred_other}
use Rattle.backoff.proofs.steps.after_wanting.Goals as goal

pub returns-in-Wanting : goal.returns-in-Wanting
returns-in-Wanting c = search step_ways

pub returns-in_default : goal.returns-in_default
returns-in_default c = deferred_other _ _ _ c.in_default.not-Wanting
