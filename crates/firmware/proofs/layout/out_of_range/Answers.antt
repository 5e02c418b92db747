use Rattle.firmware.specs.Layout.{out_of_range}
use mathlib.Core.Path.{refl}
use Rattle.firmware.proofs.layout.out_of_range.Goals as goal

pub returns : goal.returns
unfolding out_of_range
returns c = refl
