use mathlib.Core.Path.{refl}
use Rattle.issuing.proofs.Plans.{count_begins, count_next, count_all, count_stops}
use Rattle.issuing.proofs.plan.grants_within.Goals as goal

pub loop-count-init : goal.loop-count-init
loop-count-init c = count_begins _ _

pub loop-count-preserved : goal.loop-count-preserved
loop-count-preserved c = count_next _ _ _ _ c.loop-count.invariant c.loop-count-test.true _ refl c.if-left-q.false

pub returns-then-left-q : goal.returns-then-left-q
returns-then-left-q c = count_stops _ _ _ _ c.loop-count.invariant c.loop-count-test.true _ refl c.if-left-q.true

pub returns : goal.returns
returns c = count_all _ _ _ _ c.loop-count.invariant c.loop-count-test.false c.loop-count.auto.count-end
