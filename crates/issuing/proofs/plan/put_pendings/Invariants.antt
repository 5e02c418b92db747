use Rattle.issuing.proofs.Plans.{Pended}
use Rattle.issuing.proofs.plan.put_pendings.Given as goal

abbrev pub invariant-loop-k : goal.invariant-loop-k
invariant-loop-k l = Pended l.pending l.initial.out l.offset l.k l.out
