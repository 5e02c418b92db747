use mathlib.Core.Path.{◌≡◌}
use Rattle.writer.proofs.Stores.{laid}
use Rattle.writer.proofs.writing.put_elements.Given as goal

abbrev pub invariant-loop-i : goal.invariant-loop-i
invariant-loop-i l = l.out ≡ laid l.elements l.initial.out l.i
