-- The conversion: a mini-slot of at most 2^7 ticks, 64 counts each, and its count fits 64 bits.
use Rattle.std.proofs.Common.{◌≡◌, ℕ, ◌*◌, ◌%◌, ◌^◌, ◌<◌, ◌≤◌, Bool, true, false, cond, ◌&&◌, leb, refl, ap, ◌∙◌, mod-eq_of_lt, mul_assoc, mul-le-mul_left, one-mul, arith, pow_mono, le-leb}
use borrow.Author.Tests.{lt-leb}
use Rattle.std.specs.Prelude.{Option, Some, None}
use Rattle.slots.specs.declared.time.Timestamp.{Timestamp}
use Rattle.slots.specs.Begins.{size_allowed, begins_at, number_of, size_fault}

-- an answer that is the definition's stands for the number that the paper gives
pub numbered : (n m : ℕ) (r : Option Timestamp) → r ≡ begins_at n m → (r ≡ begins_at n m) × (number_of r ≡ size_fault m)
unfolding begins_at size_fault
numbered n m r e = (e, ap number_of e ∙ go (size_allowed m))
  where
    go : (b : Bool) → number_of (cond b (Some (record { 0 = n * 2 ^ m * 64 % 2 ^ 32 })) None) ≡ cond b 0 17
    go true = refl
    go false = refl

pub begins_small : (n m : ℕ) → m < 1 → None ≡ begins_at n m
unfolding begins_at
begins_small n m h = simp (lt-leb 1 m h)

pub begins_large : (n m : ℕ) → 7 < m → None ≡ begins_at n m
unfolding begins_at
begins_large n m h = go (leb 1 m)
  where
    go : (b : Bool) → ◌≡◌ {A = Option Timestamp} None (cond (b && leb m 7) (Some (record { 0 = n * 2 ^ m * 64 % 2 ^ 32 })) None)
    go true = simp (lt-leb m 7 h)
    go false = refl

module _ (m : ℕ) (h : m ≤ 7) where
  ticks_few : 2 ^ m ≤ 128
  ticks_few = pow_mono h

  ticks : 1 * 2 ^ m % 18446744073709551616 ≡ 2 ^ m
  ticks = rw (one-mul (2 ^ m)) (mod-eq_of_lt (omega (arith, ticks_few)))

  -- a tick of at most 64 counts
  module _ (k : ℕ) (c : k ≤ 64) where
    pub counts_fit : 1 * 2 ^ m % 18446744073709551616 * k < 18446744073709551616
    counts_fit = let most = mul-le-mul_left (1 * 2 ^ m % 18446744073709551616) c in omega (arith, ticks, ticks_few)

    pub count_fits : (n : ℕ) → n < 4294967296 → n * (1 * 2 ^ m % 18446744073709551616 * k) < 18446744073709551616
    count_fits n s =
        let few = mul-le-mul_left (1 * 2 ^ m % 18446744073709551616) c in
        let most : n * (1 * 2 ^ m % 18446744073709551616 * k) ≤ n * 8192 = mul-le-mul_left n (omega (arith, ticks, ticks_few)) in
        omega arith

  pub begins_at_lem : (n : ℕ) → 1 ≤ m → Some (record { 0 = n * (1 * 2 ^ m % 18446744073709551616 * 64) % 4294967296 }) ≡ begins_at n m
  unfolding begins_at
  begins_at_lem n l = rw (ticks, ← mul_assoc n (2 ^ m) 64) (simp (le-leb 1 m l, le-leb m 7 h))
