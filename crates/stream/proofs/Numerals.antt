-- The fewest digits that hold a number, and at least so many, are one number of digits.
use mathlib.Core.Path.{◌≡◌, refl, sym, ap}
use mathlib.Core.Bool.{Bool, true, false, cond}
use Prim.Native.Nat.{ℕ, zero, suc, ◌+◌, ◌-◌, ◌^◌, ◌≤◌, ◌<◌}
use native.Mathlib.Nat.{pow-le-pow_right}
use native.Mathlib.Omega.{arith}
use lib.Dec.{ltb, leb}
use borrow.Author.Tests.{ltb-true, ltb-false, leb-true, leb-false}
use Rattle.io.specs.Digits.{last_digits, IsDigitCount}
use Rattle.stream.specs.Text.{places_from, decimal_of, hex_of}

module _ (base least n j : ℕ) (some : 1 ≤ base) (few : IsDigitCount base least n j) where
  -- they are no more than others that hold it, and more than those that don't
  no_more : (k : ℕ) → least ≤ k → n < base ^ k → j ≤ k
  no_more k l h = go (leb j k) refl
    where
      go : (t : Bool) → leb j k ≡ t → j ≤ k
      go true e = leb-true j k e
      go false e =
          let more = leb-false j k e in
          let p : base ^ (j - 1) ≤ n = few.2 (omega arith) in
          let q : base ^ k ≤ base ^ (j - 1) = pow-le-pow_right some (omega arith) in
          absurd (omega arith)

  no_fewer : (k : ℕ) → base ^ k ≤ n → k < j
  no_fewer k h = go (leb j k) refl
    where
      go : (t : Bool) → leb j k ≡ t → k < j
      go true e = let q : base ^ j ≤ base ^ k = pow-le-pow_right some (leb-true j k e) in absurd (omega (arith, few.1))
      go false e = leb-false j k e

  places_are : (more k : ℕ) → least ≤ k → k ≤ j → j ≤ k + more → places_from more base k n ≡ j
  unfolding places_from
  places_are zero k l h m = omega arith
  places_are (suc more) k l h m = go (ltb n (base ^ k)) refl (λ a. places_are more (k + 1) (omega arith) a (omega arith))
    where
      go : (t : Bool) → ltb n (base ^ k) ≡ t → (k + 1 ≤ j → places_from more base (k + 1) n ≡ j) → cond t k (places_from more base (k + 1) n) ≡ j
      go true e rest = let q = no_more k l (ltb-true n (base ^ k) e) in omega arith
      go false e rest = let q = no_fewer k (ltb-false n (base ^ k) e) in rest (omega arith)

pub decimal_made : (n k : ℕ) → n < 18446744073709551616 → IsDigitCount 10 1 n k → last_digits 10 k n ≡ decimal_of n
unfolding decimal_of
decimal_made n k h few =
    let most = no_more 10 1 n k (omega arith) few 20 (omega arith) (omega arith) in
    ap (λ (j : ℕ). last_digits 10 j n) (sym (places_are 10 1 n k (omega arith) few 19 1 (omega arith) few.0 (omega arith)))

pub hex_made : (n k : ℕ) → n < 256 → IsDigitCount 16 2 n k → last_digits 16 k n ≡ hex_of n
hex_made n k h few =
    let most = no_more 16 2 n k (omega arith) few 2 (omega arith) (omega arith) in
    let z : k ≡ 2 = omega (arith, few.0) in
    ap (λ (j : ℕ). last_digits 16 j n) z
