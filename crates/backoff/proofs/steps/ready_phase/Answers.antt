use Rattle.backoff.proofs.Ways.{ready}
use Rattle.backoff.proofs.steps.ready_phase.Goals as goal

pub returns : goal.returns
returns c = search ready
