-- The list of stations, one of them changed.
use mathlib.Core.Path.{◌≡◌, refl, sym, ◌∙◌}
use mathlib.Core.Bool.{Bool, true, false}
use mathlib.Core.Logic.{◌⊎◌, inl, inr}
use mathlib.Core.List.{List}
use Prim.Native.Nat.{ℕ, ◌≤◌, ◌<◌}
use native.Mathlib.Omega.{arith}
use lib.Dec.{eqb}
use lib.ListN.{length, get_or, set, length-set}
use lib.Seq.{get_or-set_same, get_or-set_other, set_out}
use borrow.Author.Tests.{eqb-true, eqb-false}
use Rattle.slots.proofs.Rolling.{order}
use Rattle.station.specs.declared.record.Station.{Station}
use Rattle.channel.specs.History.{nobody}

same_or_not : (k i : ℕ) → (k ≡ i) ⊎ (k ≡ i → ⊥)
same_or_not k i = go (eqb k i) refl
  where
    go : (b : Bool) → eqb k i ≡ b → (k ≡ i) ⊎ (k ≡ i → ⊥)
    go true e = inl (eqb-true k i e)
    go false e = inr (eqb-false k i e)

module _ (sts : List Station) (i : ℕ) (st : Station) where
  pub each_set : (P : Station → Type 0) → (i < length sts → P st) → ((k : ℕ) → k < length sts → (k ≡ i → ⊥) → P (get_or sts k nobody)) →
      (k : ℕ) → k < length (set sts i st) → P (get_or (set sts i st) k nobody)
  each_set P this others k h = go (same_or_not k i)
    where
      inside : k < length sts
      inside = omega (arith, length-set sts i st)

      go : (k ≡ i) ⊎ (k ≡ i → ⊥) → P (get_or (set sts i st) k nobody)
      go (inl e) = let z : i < length sts = rw e at inside in rw (e, get_or-set_same sts i st nobody z) (this z)
      go (inr n) = rw (get_or-set_other sts i k st nobody n) (others k inside n)

  module _ (same : st.sid ≡ (get_or sts i nobody).sid) where
    pub sid_set : (k : ℕ) → (get_or (set sts i st) k nobody).sid ≡ (get_or sts k nobody).sid
    sid_set k = go (same_or_not k i) (order (length sts) i)
      where
        go : (k ≡ i) ⊎ (k ≡ i → ⊥) → (length sts ≤ i) ⊎ (i < length sts) → (get_or (set sts i st) k nobody).sid ≡ (get_or sts k nobody).sid
        go (inl e) (inl h) = rw (set_out sts i st h) refl
        go (inl e) (inr h) = rw (e, get_or-set_same sts i st nobody h) same
        go (inr n) h = rw (get_or-set_other sts i k st nobody n) refl

    pub apart_set : ((a b : ℕ) → a < length sts → b < length sts → (get_or sts a nobody).sid ≡ (get_or sts b nobody).sid → a ≡ b) →
        (a b : ℕ) → a < length (set sts i st) → b < length (set sts i st) → (get_or (set sts i st) a nobody).sid ≡ (get_or (set sts i st) b nobody).sid → a ≡ b
    apart_set ap' a b ha hb e = ap' a b (omega (arith, length-set sts i st)) (omega (arith, length-set sts i st)) (sym (sid_set a) ∙ e ∙ sid_set b)

    pub owner_set : (σ : ℕ) → (a : ℕ) × (a < length sts) × ((get_or sts a nobody).sid ≡ σ) → (a : ℕ) × (a < length (set sts i st)) × ((get_or (set sts i st) a nobody).sid ≡ σ)
    owner_set σ (a, h, e) = (a, omega (arith, length-set sts i st), sid_set a ∙ e)
