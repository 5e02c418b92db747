-- Lists: by number, what a test keeps, whether any is left, results gathered.
use Rattle.std.specs.Prelude.{ℕ, zero, suc, ◌+◌, Bool, true, false, cond, List, [], ◌∷◌, ◌++◌}

module _ {A : Type 0} where
  -- k of them from number i on, by what stands at each number
  unfoldable pub listed : (ℕ → A) → ℕ → ℕ → List A
  listed at i zero = []
  listed at i (suc k) = at i ∷ listed at (i + 1) k

  abbrev pub keep : (A → Bool) → List A → List A
  keep p [] = []
  keep p (x ∷ xs) = cond (p x) (x ∷ keep p xs) (keep p xs)

  abbrev pub is_empty : List A → Bool
  is_empty [] = true
  is_empty (x ∷ xs) = false

module _ {A B : Type 0} where
  abbrev pub gather : (A → List B) → List A → List B
  gather f [] = []
  gather f (x ∷ xs) = f x ++ gather f xs
