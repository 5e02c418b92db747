use Rattle.std.proofs.Common.{arith, refl}
use Rattle.stream.proofs.Putting.{left_out}
use Rattle.stream.proofs.text.Text.put.Goals as goal

pub returns-then-self-saturating_add : goal.returns-then-self-saturating_add
returns-then-self-saturating_add c = let p = left_out _ _ _ (omega (arith, c.saturating_add.ensures)) in (p.0, p.1, refl)
