use mathlib.Core.Path.{◌≡◌}
use Prim.Native.Nat.{◌+◌}
use lib.ListN.{length}
use Rattle.rules.specs.Rules.{walked, nothing_yet}
use Rattle.writer.proofs.writing.walk.Given as goal

abbrev pub invariant-loop-e : goal.invariant-loop-e
invariant-loop-e l = record {
  place : l.i + length l.left ≡ length l.elements;
  same : walked l.i l.p l.left ≡ walked 0 nothing_yet l.elements;
}

abbrev pub decreases-loop-e : goal.decreases-loop-e
decreases-loop-e l = length l.left
