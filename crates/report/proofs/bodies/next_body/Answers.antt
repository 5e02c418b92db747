use mathlib.Core.Path.{refl, ◌∙◌}
use Rattle.report.proofs.Ways.{ways, next_cut, next_off, next_read}
use Rattle.report.proofs.bodies.next_body.Goals as goal
use native.Mathlib.Omega.{arith}
use native.Mathlib.Nat.{sub-zero}

pub returns-then-left-lt16 : goal.returns-then-left-lt16
returns-then-left-lt16 c = search ways

pub returns-then-n-eq0 : goal.returns-then-n-eq0
returns-then-n-eq0 c = next_off _ c.if-left-lt16.false _ c.from-n.ensures c.then-n-eq0.either

pub returns-in_default : goal.returns-in_default
returns-in_default c = let h = c.in_default.ensures.lookup in next_cut _ c.if-left-lt16.false _ c.from-n.ensures c.if-n-eq0.false c.if-n-gt240.false (omega (arith, h.0))

pub returns : goal.returns
returns c = let h = c.in-Some.ensures.lookup in next_read _ c.if-left-lt16.false _ c.from-n.ensures c.if-n-eq0.false c.if-n-gt240.false (omega (arith, h.0)) _ (h.0.2 ∙ rw sub-zero refl) _ c.read.ensures _ c.body_by.ensures
