-- The span premise is sharp: one longest MAP past 2^31 mini-slots the first MAP of all is accepted again, a held request is called lost, and (b) fails.
use mathlib.Core.Path.{◌≡◌, refl, ◌∙◌, ap}
use mathlib.Core.Bool.{true}
use mathlib.Core.List.{List, [], ◌∷◌, ◌++◌}
use Prim.Native.Nat.{ℕ, suc, ◌+◌, ◌*◌, ◌^◌}
use native.Mathlib.Omega.{arith}
use lib.Dec.{lit<}
use lib.ListN.{replicate}
use Rattle.headend.specs.Records.{with_places}
use Rattle.headend.specs.Requests.{held_of}
use Rattle.channel.specs.History.{from, Issue, State, Event, Offer, Hear, Deliver, step, after, spent}
use Rattle.channel.specs.Claims.{Fresh, HeldWaits}
use Rattle.channel.proofs.Computing.{rules}
use Rattle.channel.proofs.Claimed.{unawaited, held_alone}
use Rattle.channel.proofs.Histories.{start_at, fresh_start, issue, request}
use Rattle.channel.proofs.Idling.{idle, longest, idled, from_idled, spent_idled, idle_run}

-- station 5 asks in the MAP at 2^31 + 1, and its request is taken
abbrev asks : List Event
asks = issue 2147483648 1 1 ∷ Offer 0 3 ∷ issue 2147483648 4095 4095 ∷ Hear 0 0 2147483648 0 ∷ Deliver 0 ∷ []

-- of all MAPs the first, behind n others and those two: its start lies less than 2^31 ahead of the remembered end, and the request is earlier than its Ack Time
abbrev rehears : ℕ → Event
rehears n = Hear 0 (suc (suc n)) 4294967295 0

abbrev pub ancient : ℕ → List Event
ancient n = replicate (suc n) (issue 0 4096 4096) ++ (asks ++ (rehears n ∷ []))

-- at 2^31, before it asks
abbrev late : List Issue → State
late js = record { headend = idle 2147483648 0; stations = (start_at 0).stations; issues = js; flying = []; log = [] }

rehearsed : (n : ℕ) (js : List Issue) → from n js ≡ longest 0 0 ∷ [] →
    let s = step (after asks (late js)) (rehears n) in
    (held_of s.headend ≡ request 5 3 2147483649 ∷ []) × (unawaited 2147483649 s.stations ≡ true) × (spent s.issues ≡ 4095 + (1 + spent js))
unfolding unawaited rules
rehearsed n js e = rw e (refl, refl, refl)

after_append : (es fs : List Event) (s : State) → after (es ++ fs) s ≡ after fs (after es s)
unfolding after
after_append [] fs s = refl
after_append (e ∷ es) fs s = after_append es fs (step s e)

-- n + 1 longest MAPs reach 2^31
module _ (n : ℕ) (long : 4096 * suc n ≡ 2147483648) where
  abbrev maps : List Issue
  maps = idled 0 (suc n) 0 []

  idled_late : after (replicate (suc n) (issue 0 4096 4096)) (start_at 0) ≡ late maps
  unfolding with_places
  idled_late = let z : 0 + 4096 * suc n ≡ 2147483648 = omega arith in idle_run 0 (lit< tt) (suc n) 0 (start_at 0) refl (omega arith) ∙ rw z refl

  reached : after (ancient n) (start_at 0) ≡ step (after asks (late maps)) (rehears n)
  unfolding after
  reached = after_append (replicate (suc n) (issue 0 4096 4096)) (asks ++ (rehears n ∷ [])) (start_at 0) ∙ ap (after (asks ++ (rehears n ∷ []))) idled_late ∙ after_append asks (rehears n ∷ []) (late maps)

  first_of_all : from n maps ≡ longest 0 0 ∷ []
  unfolding idled
  first_of_all = let z : n ≡ n + 0 = omega arith in ap (λ (k : ℕ). from k maps) z ∙ from_idled 0 n 4096 0 (longest 0 0 ∷ [])

  pub ancient_spent : spent (after (ancient n) (start_at 0)).issues ≡ 2 ^ 31 + 4096
  unfolding spent
  ancient_spent = ap (λ (s : State). spent s.issues) reached ∙ (rehearsed n maps first_of_all).2 ∙ omega (arith, spent_idled 0 (suc n) 0 [])

  pub ancient_breaks : HeldWaits (after (ancient n) (start_at 0)) → ⊥
  ancient_breaks claim = let end = rehearsed n maps first_of_all in held_alone (step (after asks (late maps)) (rehears n)) (request 5 3 2147483649) end.0 end.1 (rw reached at claim)

-- "all times of the history fit in a span under 2^31 mini-slots": a history that only goes past it
pub span_needed : Fresh (start_at 0) × (spent (after (ancient 524287) (start_at 0)).issues ≡ 2 ^ 31 + 4096) × (HeldWaits (after (ancient 524287) (start_at 0)) → ⊥)
span_needed = (fresh_start 0 (lit< tt), ancient_spent 524287 refl, ancient_breaks 524287 refl)
