use Rattle.std.proofs.Common.{ℕ, sym}
use lib.ListN.{length-replicate}
use Rattle.replay.proofs.input.Goals as goal

-- by the law: a length that is computed costs a step for each zero
pub returns : goal.returns
returns c = sym (length-replicate {0} {A = ℕ} 1048577 0)
