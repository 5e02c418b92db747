use Rattle.std.proofs.Common.{◌<◌, rules, mod-eq_of_lt, refl}
use Rattle.slots.specs.Time.{ahead}
use Rattle.slots.proofs.time.MiniSlot.ahead.Goals as goal

pub returns : goal.returns
unfolding ahead
returns c = let b : c.args.self.0 < 4294967296 = search rules in rw (mod-eq_of_lt b) refl
