use Rattle.slots.specs.Time.{earlier}
use Rattle.slots.proofs.time.MiniSlot.earlier.Goals as goal

pub returns : goal.returns
unfolding earlier
returns c = rw c.ahead-distance.ensures
