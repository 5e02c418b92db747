-- The fewest digits that hold a number are one number of digits, and how many those are at most.
use mathlib.Core.Path.{◌≡◌, refl, ◌∙◌, ap}
use mathlib.Core.Bool.{Bool, true, false, cond}
use mathlib.Core.Logic.{◌⊎◌, inl, inr}
use mathlib.Core.List.{[], ◌∷◌}
use Prim.Native.Nat.{ℕ, zero, suc, ◌-◌, ◌*◌, ◌/◌, ◌%◌, ◌^◌, ◌≤◌, ◌<◌}
use native.Mathlib.Nat.{pow-succ', pow-le-pow_right}
use native.Mathlib.Omega.{arith}
use lib.Dec.{ltb}
use lib.ListN.{length, length-append}
use borrow.Author.Tests.{ltb-true, ltb-false}
use Rattle.slots.proofs.Rolling.{order}
use Rattle.io.specs.Digits.{hex_digit_ascii, last_digits, IsDigitCount}
use Rattle.report.specs.Decimal.{places_from, places_of, decimal_of}

more : (n k : ℕ) → 10 ≤ n → IsDigitCount 10 1 (n / 10) k → IsDigitCount 10 1 n (suc k)
more n zero h (a, b, c) = absurd (omega arith)
more n (suc k) h (a, b, c) =
    let one : 10 ^ suc (suc k) ≡ 10 * 10 ^ suc k = pow-succ' 10 (suc k) in
    let z : suc (suc k) - 1 ≡ suc k = omega arith in
    (omega arith, omega arith, λ _. rw z (least k c))
  where
    least : (j : ℕ) → (1 < suc j → 10 ^ (suc j - 1) ≤ n / 10) → 10 ^ suc j ≤ n
    least zero d = h
    least (suc j) d =
        let z : suc (suc j) - 1 ≡ suc j = omega arith in
        let e : 10 ^ suc j ≤ n / 10 = rw z at (d (omega arith)) in
        let f : 10 ^ suc (suc j) ≡ 10 * 10 ^ suc j = pow-succ' 10 (suc j) in
        omega arith

fewest_from : (k n : ℕ) → n ≤ k → IsDigitCount 10 1 n (places_from k n)
unfolding places_from
fewest_from zero n h = (omega arith, omega arith, λ l. absurd (omega arith))
fewest_from (suc k) n h = go (ltb n 10) refl (λ l. fewest_from k (n / 10) l)
  where
    go : (b : Bool) → ltb n 10 ≡ b → (n / 10 ≤ k → IsDigitCount 10 1 (n / 10) (places_from k (n / 10))) → IsDigitCount 10 1 n (cond b 1 (suc (places_from k (n / 10))))
    go true e rest = let l = ltb-true n 10 e in (omega arith, omega arith, λ l'. absurd (omega arith))
    go false e rest = let l = ltb-false n 10 e in more n (places_from k (n / 10)) l (rest (omega arith))

pub fewest_places : (n : ℕ) → IsDigitCount 10 1 n (places_of n)
fewest_places n = fewest_from n n (omega arith)

-- digits that hold n are no fewer than the fewest
no_fewer : (n k j : ℕ) → 1 ≤ j → n < 10 ^ j → IsDigitCount 10 1 n k → k ≤ j
no_fewer n k j some h (a, b, c) = go (order k j)
  where
    go : (k ≤ j) ⊎ (j < k) → k ≤ j
    go (inl l) = l
    go (inr l) =
        let p : 10 ^ (k - 1) ≤ n = c (omega arith) in
        let q : 10 ^ j ≤ 10 ^ (k - 1) = pow-le-pow_right (omega arith) (omega arith) in
        absurd (omega arith)

one_fewest : (n k j : ℕ) → IsDigitCount 10 1 n k → IsDigitCount 10 1 n j → k ≡ j
one_fewest n k j (a, b, c) (d, e, f) =
    let g = no_fewer n k j d e (a, b, c) in
    let h = no_fewer n j k a b (d, e, f) in
    omega arith

-- what the kit's decimal makes of a number
pub decimal_made : (n k : ℕ) → IsDigitCount 10 1 n k → last_digits 10 k n ≡ decimal_of n
unfolding decimal_of
decimal_made n k f = ap (λ (j : ℕ). last_digits 10 j n) (one_fewest n k (places_of n) f (fewest_places n))

length_digits : (b k n : ℕ) → length (last_digits b k n) ≡ k
length_digits b zero n = refl
length_digits b (suc k) n = length-append (last_digits b k (n / b)) (hex_digit_ascii (n % b) ∷ []) ∙ omega (arith, length_digits b k (n / b))

-- a number below 10^m has at most m digits
pub decimal_short : (n m : ℕ) → 1 ≤ m → n < 10 ^ m → length (decimal_of n) ≤ m
unfolding decimal_of
decimal_short n m some h = omega (arith, length_digits 10 (places_of n) n, no_fewer n (places_of n) m some h (fewest_places n))
