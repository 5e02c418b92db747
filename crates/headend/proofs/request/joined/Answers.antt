use Rattle.headend.specs.Records.{joined}
use Rattle.headend.proofs.request.joined.Goals as goal

pub returns : goal.returns
unfolding joined
returns c = c.with_places.ensures
