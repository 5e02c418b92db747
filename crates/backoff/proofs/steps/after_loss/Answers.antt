use Rattle.backoff.proofs.Ways.{step_ways}
use Rattle.backoff.proofs.steps.after_loss.Goals as goal

pub returns-then-retries-ge-MOST_RETRIES : goal.returns-then-retries-ge-MOST_RETRIES
returns-then-retries-ge-MOST_RETRIES c = search step_ways

pub returns : goal.returns
returns c = search step_ways
