-- One station's case, through each event but hearing.
use mathlib.Core.Path.{◌≡◌, refl, sym, ◌∙◌, ap}
use mathlib.Core.Logic.{◌⊎◌, inl, inr}
use mathlib.Core.List.{List, [], ◌∷◌, ◌++◌, Memᴰ}
use Prim.Native.Nat.{ℕ, ◌≤◌, ◌<◌}
use native.Mathlib.Omega.{arith}
use Rattle.station.specs.declared.record.Phase.{Phase}
use Rattle.station.specs.declared.record.Phase.TheVariants.{Idle}
use Rattle.headend.specs.declared.record.Request.{Request}
use Rattle.channel.specs.History.{Issue}
use Rattle.channel.proofs.Timing.{at}
use Rattle.channel.proofs.Keeping.{append_none, append_one, each_cons}
use Rattle.issuing.proofs.Planned.{of_sid}
use Rattle.channel.proofs.Contents.{granted_by, pending_by}
use Rattle.channel.proofs.Invariant.{length_of, start_of, end_of, Chained, Case, Waits, Clear, Carried}
use Rattle.channel.proofs.Invariant.Case.{quiet, flying, held, granted}
use Rattle.channel.proofs.Chain.{chain_below, window_cons}

module _ (B σ : ℕ) (p : Phase) (e N : ℕ) (h f : List Request) (js : List Issue) where
  idle_waits : {A : Type 0} (q : Request) → p ≡ Idle → Waits p q → A
  idle_waits q i (x, r, w) = let z : ◌≡◌ {A = ℕ} 0 1 = cc in absurd (omega arith)

  -- an Idle station is quiet, and that says nothing of the phase
  pub case_offer : p ≡ Idle → (p' : Phase) → Case B σ p e N h f js → Case B σ p' e N h f js
  case_offer i p' (quiet a b c) = quiet a b c
  case_offer i p' (flying q w a b c d) = idle_waits q i w
  case_offer i p' (held q d w a b c l win) = idle_waits q i w
  case_offer i p' (granted q d g w a b c m k l n x y) = idle_waits q i w

  -- what was flying, and is no more or still is
  pub case_lose : (f' : List Request) → (f ≡ [] → f' ≡ []) → ((q : Request) → f ≡ q ∷ [] → (f' ≡ q ∷ []) ⊎ (f' ≡ [])) → Case B σ p e N h f js → Case B σ p e N h f' js
  case_lose f' none one (quiet a b c) = quiet a (none b) c
  case_lose f' none one (flying q w a b c d) = go (one q b)
    where
      go : (f' ≡ q ∷ []) ⊎ (f' ≡ []) → Case B σ p e N h f' js
      go (inl z) = flying q w a z c d
      go (inr z) = quiet a z d
  case_lose f' none one (held q d w a b c l win) = held q d w a (none b) c l win
  case_lose f' none one (granted q d g w a b c m k l n x y) = granted q d g w a (none b) c m k l n x y

  -- the headend takes the one that was flying
  pub case_taken : (q' : Request) (f' : List Request) → (f ≡ [] → ⊥) → ((q : Request) → f ≡ q ∷ [] → (q' ≡ q) × (f' ≡ [])) → ((j : Issue) → Memᴰ j js → at B j.ack ≤ at B q'.first.0) →
      Case B σ p e N h f js → Case B σ p e N (h ++ (q' ∷ [])) f' js
  case_taken q' f' none one acks (quiet a b c) = absurd (none b)
  case_taken q' f' none one acks (flying q w a b c d) = let r = one q b in held q N w (rw a (ap (λ z. z ∷ []) r.0)) r.1 c (omega arith)
      (λ j m lo hi. inl (hi, d j m lo hi, (rw r.0 at (acks j m))))
  case_taken q' f' none one acks (held q d w a b c l win) = absurd (none b)
  case_taken q' f' none one acks (granted q d g w a b c m k l n x y) = absurd (none b)

  -- MAP j is issued
  module _ (N' : ℕ) (j : Issue) (h' f' : List Request) (ch : Chained B N js) (here : start_of B j ≡ N) (there : N' ≡ end_of B j) (long : 1 ≤ length_of j) (upto : e ≤ N)
      (split : h ≡ of_sid σ (granted_by j) ++ of_sid σ (pending_by j)) (left : h' ≡ of_sid σ (pending_by j)) (none : f ≡ [] → f' ≡ []) (one : (q : Request) → f ≡ q ∷ [] → (f' ≡ q ∷ []) ⊎ (f' ≡ [])) where
    clear_new : h ≡ [] → Clear σ j
    clear_new a = append_none (of_sid σ (granted_by j)) (of_sid σ (pending_by j)) (sym split ∙ a)

    pub case_issue : Case B σ p e N h f js → Case B σ p e N' h' f' (j ∷ js)
    case_issue (quiet a b c) = quiet (left ∙ (clear_new a).1) (none b) (window_cons B (Clear σ) e N N' js j ch (clear_new a) c)
    case_issue (flying q w a b c d) = go (one q b)
      where
        go : (f' ≡ q ∷ []) ⊎ (f' ≡ []) → Case B σ p e N' h' f' (j ∷ js)
        go (inl z) = flying q w (left ∙ (clear_new a).1) z (omega arith) (window_cons B (Clear σ) e N N' js j ch (clear_new a) d)
        go (inr z) = quiet (left ∙ (clear_new a).1) z (window_cons B (Clear σ) e N N' js j ch (clear_new a) d)
    case_issue (held q d w a b c l win) = go (append_one (of_sid σ (granted_by j)) (of_sid σ (pending_by j)) q (sym split ∙ a))
      where
        go : ((of_sid σ (granted_by j) ≡ []) × (of_sid σ (pending_by j) ≡ q ∷ [])) ⊎ ((of_sid σ (granted_by j) ≡ q ∷ []) × (of_sid σ (pending_by j) ≡ [])) → Case B σ p e N' h' f' (j ∷ js)
        go (inl z) = held q d w (left ∙ z.1) (none b) (omega arith) (omega arith) (window_cons B (Carried B σ q d) e N N' js j ch (inr (omega arith, z.1)) win)
        go (inr z) = granted q d j w (left ∙ z.1) (none b) (omega arith) (Memᴰ.head refl) (omega arith) z.0 z.1
            (λ k m lo hi. each_cons (λ k. e ≤ start_of B k → start_of B k < start_of B j → Carried B σ q d k) j js (λ lo' hi'. absurd (omega arith)) (λ y n lo' hi'. win y n lo' (omega arith)) k m lo hi)
            (λ k m lo hi. each_cons (λ k. end_of B j ≤ start_of B k → Clear σ k) j js (λ lo'. absurd (omega arith)) (λ y n lo'. let r = chain_below B N js ch y n in absurd (omega arith)) k m lo)
    case_issue (granted q d g w a b c m k l n x y) = granted q d g w (left ∙ (clear_new a).1) (none b) (omega arith) (Memᴰ.tail m) k l n
        (λ i u lo hi. let r = chain_below B N js ch g m in each_cons (λ i. e ≤ start_of B i → start_of B i < start_of B g → Carried B σ q d i) j js (λ lo' hi'. absurd (omega arith)) x i u lo hi)
        (window_cons B (Clear σ) (end_of B g) N N' js j ch (clear_new a) y)
