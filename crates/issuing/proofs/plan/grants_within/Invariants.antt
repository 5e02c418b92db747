use Rattle.issuing.proofs.Plans.{Counted}
use Rattle.issuing.proofs.plan.grants_within.Given as goal

abbrev pub invariant-loop-count : goal.invariant-loop-count
invariant-loop-count l = Counted l.held l.room l.count l.left
