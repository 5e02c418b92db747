-- Laws of lists by number.
use mathlib.Core.Path.{◌≡◌, refl, ap}
use mathlib.Core.List.{[], ◌∷◌, ◌++◌}
use Prim.Native.Nat.{ℕ, zero, suc, ◌+◌}
use native.Mathlib.Omega.{arith}
use native.Mathlib.Nat.{add-zero}
use lib.ListN.{length}
use Rattle.message.specs.Lists.{listed}

pub length_listed : {A : Type 0} (el : ℕ → A) (i k : ℕ) → length (listed el i k) ≡ k
unfolding listed
length_listed el i zero = refl
length_listed el i (suc k) = ap suc (length_listed el (i + 1) k)

-- one element more, at the end
pub listed_last : {A : Type 0} (el : ℕ → A) (i k : ℕ) → listed el i (k + 1) ≡ listed el i k ++ (el (i + k) ∷ [])
unfolding listed
listed_last el i zero = rw (add-zero i) refl
listed_last el i (suc k) =
    let one : suc k + 1 ≡ suc (k + 1) = omega arith in
    let same : i + suc k ≡ i + 1 + k = omega arith in
    rw (one, same, listed_last el (i + 1) k) refl
