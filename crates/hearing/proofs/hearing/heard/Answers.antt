use Rattle.hearing.proofs.Ways.{heard_taken}
use Rattle.hearing.proofs.hearing.heard.Goals as goal

pub returns : goal.returns
returns c = search heard_taken
