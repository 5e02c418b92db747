use Rattle.headend.specs.Records.{with_places}
use mathlib.Core.Path.{refl}
use Rattle.headend.proofs.record.with_places.Goals as goal

pub returns : goal.returns
unfolding with_places
returns c = refl
