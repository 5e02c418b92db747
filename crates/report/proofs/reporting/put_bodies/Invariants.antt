use lib.ListN.{length}
use Rattle.report.proofs.Running.{Going}
use Rattle.report.proofs.reporting.put_bodies.Given as goal

abbrev pub invariant-loop-left : goal.invariant-loop-left
invariant-loop-left l = Going l.input l.left l.number l.span l.initial.lines l.lines

abbrev pub decreases-loop-left : goal.decreases-loop-left
decreases-loop-left l = length l.left
