-- MAPs without a gap: the order of their starts and ends.
use mathlib.Core.Path.{◌≡◌, sym, ◌∙◌}
use mathlib.Core.Logic.{◌⊎◌, inl, inr}
use mathlib.Core.List.Memᴰ
use mathlib.Core.List.{List, [], ◌∷◌, Memᴰ}
use Prim.Native.Nat.{ℕ, ◌≤◌}
use native.Mathlib.Omega.{arith}
use Rattle.channel.specs.History.{Issue, spent}
use Rattle.channel.proofs.Keeping.{each_cons}
use Rattle.channel.proofs.Invariant.{length_of, start_of, end_of, Window, Chained}

module _ (B : ℕ) where
  pub chain_below : (N : ℕ) (js : List Issue) → Chained B N js → (j : Issue) → Memᴰ j js → (end_of B j ≤ N) × (1 ≤ length_of j)
  chain_below N [] ch j m = absurd (Memᴰ.not-nil m)
  chain_below N (x ∷ js) ch j m = each_cons (λ j. (end_of B j ≤ N) × (1 ≤ length_of j)) x js (omega arith, ch.1)
      (λ y n. let r = chain_below (start_of B x) js ch.2 y n in (omega arith, r.1)) j m

  -- one MAP, or one before the other
  abbrev pub Order : Issue → Issue → Type 0
  Order j k = (j ≡ k) ⊎ ((end_of B j ≤ start_of B k) ⊎ (end_of B k ≤ start_of B j))

  pub chain_order : (N : ℕ) (js : List Issue) → Chained B N js → (j k : Issue) → Memᴰ j js → Memᴰ k js → Order j k
  chain_order N [] ch j k m n = absurd (Memᴰ.not-nil m)
  chain_order N (x ∷ js) ch j k m n = go (Memᴰ.cases_cons m) (Memᴰ.cases_cons n) (λ m' n'. chain_order (start_of B x) js ch.2 j k m' n')
    where
      go : (j ≡ x) ⊎ Memᴰ j js → (k ≡ x) ⊎ Memᴰ k js → (Memᴰ j js → Memᴰ k js → Order j k) → Order j k
      go (inl e) (inl f) ih = inl (e ∙ sym f)
      go (inl e) (inr b) ih = inr (inr (rw e (chain_below (start_of B x) js ch.2 k b).0))
      go (inr a) (inl f) ih = inr (inl (rw f (chain_below (start_of B x) js ch.2 j a).0))
      go (inr a) (inr b) ih = ih a b

  pub chain_spent : (N : ℕ) (js : List Issue) → Chained B N js → N ≡ spent js
  unfolding spent
  chain_spent N [] ch = ch
  chain_spent N (x ∷ js) ch = let r : start_of B x ≡ spent js = chain_spent (start_of B x) js ch.2 in omega arith

  -- one more MAP, at the end of the others
  pub window_cons : (P : Issue → Type 0) (lo N N' : ℕ) (js : List Issue) (j : Issue) → Chained B N js → P j → Window B P lo N js → Window B P lo N' (j ∷ js)
  window_cons P lo N N' js j ch new old k m a b = each_cons (λ k. lo ≤ start_of B k → P k) j js (λ a'. new)
      (λ y n a'. let r = chain_below N js ch y n in old y n a' (omega arith)) k m a
