use mathlib.Core.Path.{refl}
use Rattle.issuing.proofs.Plans.{pended_none, pended_more, pended_all}
use Rattle.issuing.proofs.plan.put_pendings.Goals as goal

pub loop-k-init : goal.loop-k-init
loop-k-init c = pended_none _ _ c.requires _

pub loop-k-preserved : goal.loop-k-preserved
loop-k-preserved c = pended_more _ _ c.requires _ c.loop-k-test.true _ refl _ _ c.loop-k.invariant

pub returns : goal.returns
returns c = pended_all _ _ c.requires _ _ _ c.loop-k.auto.k-end c.loop-k-test.false c.loop-k.invariant
