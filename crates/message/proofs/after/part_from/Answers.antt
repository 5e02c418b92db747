use Rattle.message.proofs.Parting.{part_none, part_rest}
use mathlib.Core.Path.{refl}
use native.Mathlib.Omega.{arith}
use Rattle.message.proofs.after.part_from.Goals as goal

pub returns-then-bytes-at : goal.returns-then-bytes-at
returns-then-bytes-at c = (part_none _ _ c.if-bytes-at.true, (refl, omega arith))

pub returns : goal.returns
returns c = (part_rest c.args.bytes.now c.args.at, (refl, omega arith))
