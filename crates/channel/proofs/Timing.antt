-- Roll-over, taken out once: every time as its distance from a base B, which will be the headend's first next start.
use mathlib.Core.Path.{◌≡◌, sym, ◌∙◌}
use mathlib.Core.Bool.{true}
use Prim.Native.Nat.{ℕ, ◌+◌, ◌≤◌, ◌<◌}
use native.Mathlib.Omega.{arith}
use lib.Dec.{ltb}
use borrow.Author.Tests.{leb-true}
use Rattle.slots.specs.Time.{ahead, half, earlier, moved_on}
use Rattle.slots.proofs.Rolling.{ahead_self, moved_ahead, earlier_is_less, not_behind, ahead_within}

module _ (B : ℕ) where
  unfoldable pub at : ℕ → ℕ
  at x = ahead 32 B x

  pub at_base : at B ≡ 0
  unfolding at
  at_base = ahead_self 32 B

  pub at_moved : (x n : ℕ) → at x + n < 4294967296 → at (moved_on 32 x n) ≡ at x + n
  unfolding at
  at_moved x n h = moved_ahead 32 B x n h

  -- rule 22: the new Ack Time lies between the old one and the next start
  pub ack_at : (old next new : ℕ) → at old ≤ at next → ahead 32 old new ≤ ahead 32 old next → (at old ≤ at new) × (at new ≤ at next)
  unfolding at
  ack_at old next new h k = ahead_within 32 B old next new h k

  module _ (x y : ℕ) (hx : at x < 2147483648) (hy : at y < 2147483648) where
    pub earlier_at : earlier 32 x y ≡ ltb (at x) (at y)
    unfolding at
    earlier_at = earlier_is_less 32 (omega arith) B x y hx hy

    -- rule 14: what is not stale is not behind
    pub onward_at : ltb (ahead 32 x y) (half 32) ≡ true → at x ≤ at y
    unfolding at
    onward_at e = leb-true (ahead 32 B x) (ahead 32 B y) (sym (not_behind 32 (omega arith) B x y hx hy) ∙ e)
