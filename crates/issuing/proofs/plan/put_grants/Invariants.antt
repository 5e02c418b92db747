use Rattle.issuing.proofs.Plans.{Granted}
use Rattle.issuing.proofs.plan.put_grants.Given as goal

abbrev pub invariant-loop-k : goal.invariant-loop-k
invariant-loop-k l = Granted l.granted l.initial.out l.short l.from l.k l.offset l.out
