use mathlib.Core.Path.{refl}
use native.Mathlib.Omega.{arith}
use Rattle.issuing.proofs.Plans.{granted_none, granted_fits, granted_more, granted_all}
use Rattle.issuing.proofs.plan.put_grants.Goals as goal

pub loop-k-init : goal.loop-k-init
loop-k-init c = granted_none _ _ c.requires.0 _ _

pub loop-k-preserved : goal.loop-k-preserved
loop-k-preserved c = granted_more _ _ c.requires.0 _ c.loop-k-test.true _ refl _ _ _ _ _ c.loop-k.invariant c.use_of.ensures

pub overflow_add-offset : goal.overflow_add-offset
overflow_add-offset c = let f = granted_fits _ _ c.requires.0 _ c.loop-k-test.true _ refl _ _ _ _ c.loop-k.invariant c.requires.1 in omega arith

pub returns : goal.returns
returns c = granted_all _ _ c.requires.0 _ _ _ _ _ c.loop-k.auto.k-end c.loop-k-test.false c.loop-k.invariant
