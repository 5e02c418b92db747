-- Lists by number.
use mathlib.Core.Path.{◌≡◌, refl}
use mathlib.Core.List.{List, [], ◌∷◌}
use Prim.Native.Nat.{ℕ, zero, suc, ◌+◌, ◌≤◌, ◌<◌}
use native.Mathlib.Omega.{arith}
use native.Mathlib.Nat.{zero-add}
use lib.ListN.{length, get_or, take}
use Rattle.std.proofs.lemmas.List.{take_more}
use Rattle.message.specs.Lists.{listed}
use Rattle.message.proofs.Lists.{listed_last}

-- numbers by places: only what stands at them counts
pub listed_agree : {A : Type 0} (el other : ℕ → A) (i k : ℕ) → ((j : ℕ) → j < i + k → el j ≡ other j) → listed el i k ≡ listed other i k
unfolding listed
listed_agree el other i zero h = refl
listed_agree el other i (suc k) h = rw (h i (omega arith), listed_agree el other (i + 1) k (λ j l. h j (omega arith))) refl

take_none : {A : Type 0} (xs : List A) (el : ℕ → A) → take 0 xs ≡ listed el 0 0
unfolding listed
take_none [] el = refl
take_none (x ∷ xs) el = refl

-- the first of a list, by number
pub take_listed : {A : Type 0} (xs : List A) (d : A) (k : ℕ) → k ≤ length xs → take k xs ≡ listed (λ i. get_or xs i d) 0 k
take_listed xs d zero h = take_none xs (λ i. get_or xs i d)
take_listed xs d (suc k) h =
    let one : suc k ≡ k + 1 = omega arith in
    rw (one, take_more xs k d h, take_listed xs d k (omega arith), listed_last (λ i. get_or xs i d) 0 k, zero-add k) refl
