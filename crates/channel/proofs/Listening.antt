-- A station that hears an issued MAP: by what the MAP holds for it.
use mathlib.Core.Path.{◌≡◌, refl, sym, ◌∙◌, ap, subst}
use mathlib.Core.Bool.{Bool, true, false, not}
use mathlib.Core.Logic.{inl, inr}
use mathlib.Core.List.Memᴰ
use mathlib.Core.List.{List, [], ◌∷◌, ◌++◌, map, Memᴰ}
use Prim.Native.Nat.{ℕ, ◌+◌, ◌≤◌, ◌<◌}
use native.Mathlib.Omega.{arith}
use lib.Dec.{eqb}
use borrow.Author.Tests.{ne_eqb}
use Rattle.slots.specs.declared.time.MiniSlot.{MiniSlot}
use Rattle.slots.specs.Time.{earlier, moved_on}
use Rattle.message.specs.Lists.{is_empty}
use Rattle.rules.specs.Rules.{granting}
use Rattle.message.specs.Map.{Map, Interval, time_at}
use Rattle.station.specs.declared.record.Phase.TheVariants.{Idle, Waiting}
use Rattle.station.specs.declared.record.Station.{Station}
use Rattle.hearing.specs.Opportunities.{contention_in, own_in, contention, own}
use Rattle.hearing.specs.Steps.{granted}
use Rattle.hearing.specs.Hearing.{has_grant, has_pending, phase_after, request_in, station_after}
use Rattle.hearing.proofs.Heard.{Outcome, hear_granted, hear_idle, hear_outcome, hear_still}
use Rattle.hearing.proofs.Inside.{contention_inside}
use Rattle.headend.specs.declared.record.Request.{Request}
use Rattle.issuing.proofs.Planned.{of_sid}
use Rattle.channel.specs.History.{Issue, map_in, request_by}
use Rattle.channel.proofs.Timing.{at, at_moved}
use Rattle.channel.proofs.Keeping.{clash}
use Rattle.channel.proofs.Contents.{asking, granted_by, pending_by, Contents}
use Rattle.channel.proofs.Invariant.{start_of, Clear}
use Rattle.std.specs.Prelude.{Some, None}

-- the opportunities of a MAP for a station, by first mini-slot
abbrev pub chances : Station → Map → List ℕ
chances st m = own st.sid st.r m ++ contention st.r m

-- the request that a hearing sends, if any
abbrev pub sent_on : Station → Map → ℕ → List Request
sent_on st m draw = request_by (station_after st m draw) (request_in st m draw)

module _ (st : Station) (m : Map) (draw : ℕ) where
  pub sent_none : request_in st m draw ≡ None → sent_on st m draw ≡ []
  sent_none e = rw e refl

  pub sent_one : (exponent retries : ℕ) (time : MiniSlot) (size : ℕ) → phase_after st m draw ≡ Waiting exponent retries time size → request_in st m draw ≡ Some time →
      sent_on st m draw ≡ record { sid = st.sid; size = size; first = time } ∷ []
  unfolding station_after
  sent_one exponent retries time size w e = rw (e, w) refl

  -- as it was, and nothing sent
  abbrev pub Unmoved : ℕ → ℕ → MiniSlot → ℕ → Type 0
  Unmoved exponent retries time size = (phase_after st m draw ≡ Waiting exponent retries time size) × (request_in st m draw ≡ None)

module _ (st : Station) (j : Issue) (draw : ℕ) (told : Contents j) where
  has_grant_lem : has_grant st (map_in j) ≡ not (is_empty (of_sid st.sid (granted_by j)))
  has_grant_lem = ap not (told.grants st.sid)

  has_pending_lem : has_pending st (map_in j) ≡ not (is_empty (of_sid st.sid (pending_by j)))
  has_pending_lem = ap not (told.pendings st.sid)

  -- neither a grant nor a pending
  pub heard_clear : Clear st.sid j → Outcome 32 false j.ack (chances st (map_in j)) st.phase (phase_after st (map_in j) draw) (request_in st (map_in j) draw)
  heard_clear (a, b) =
      let none : has_pending st (map_in j) ≡ false = has_pending_lem ∙ rw b refl in
      let o = hear_outcome st (map_in j) draw (has_grant_lem ∙ rw a refl) in
      subst (λ (x : ℕ). Outcome 32 false x (chances st (map_in j)) st.phase (phase_after st (map_in j) draw) (request_in st (map_in j) draw)) told.ack (rw none at o)

  -- .. to a station that waits, its request not earlier than the Ack Time
  pub heard_early : (exponent retries : ℕ) (time : MiniSlot) (size : ℕ) → st.phase ≡ Waiting exponent retries time size → of_sid st.sid (granted_by j) ≡ [] → earlier 32 time.0 j.ack ≡ false → Unmoved st (map_in j) draw exponent retries time size
  heard_early exponent retries time size w a e = hear_still st (map_in j) draw exponent retries time size (has_grant_lem ∙ rw a refl) w (inr (rw told.ack e))

  -- a pending, to a station that waits, whatever is granted
  pub heard_pending : (exponent retries : ℕ) (time : MiniSlot) (size : ℕ) (q : Request) → st.phase ≡ Waiting exponent retries time size → of_sid st.sid (pending_by j) ≡ q ∷ [] → Unmoved st (map_in j) draw exponent retries time size
  unfolding granted
  heard_pending exponent retries time size q w e = go (has_grant st (map_in j)) refl
    where
      some : has_pending st (map_in j) ≡ true
      some = has_pending_lem ∙ rw e refl

      go : (b : Bool) → has_grant st (map_in j) ≡ b → Unmoved st (map_in j) draw exponent retries time size
      go true g = let r = hear_granted st (map_in j) draw g in (r.0 ∙ rw (some, w) refl, r.1)
      go false g = hear_still st (map_in j) draw exponent retries time size g w (inl some)

  -- a grant and no pending
  pub heard_grant : (q : Request) → of_sid st.sid (granted_by j) ≡ q ∷ [] → of_sid st.sid (pending_by j) ≡ [] → (phase_after st (map_in j) draw ≡ Idle) × (request_in st (map_in j) draw ≡ None)
  heard_grant q e f = hear_idle st (map_in j) draw (has_grant_lem ∙ rw e refl) (has_pending_lem ∙ rw f refl)

-- a grant gives no opportunity
granting_not : (n iuc : ℕ) → granting n ≡ false → granting iuc ≡ true → eqb iuc n ≡ false
granting_not n iuc p q = ne_eqb iuc n (λ e. clash (granting iuc) q (rw e p))

own_of_grant : (σ r : ℕ) (k : Interval) → granting k.iuc ≡ true → own_in σ r k ≡ []
unfolding own_in
own_of_grant σ r k g = rw (granting_not 1 k.iuc refl g) refl

contention_of_grant : (r : ℕ) (k : Interval) → granting k.iuc ≡ true → contention_in r k ≡ []
unfolding contention_in
contention_of_grant r k g = rw (granting_not 1 k.iuc refl g, granting_not 2 k.iuc refl g) refl

-- .. and the contention part none to a SID of its own
own_of_asking : (σ r c : ℕ) → eqb 0x3FFF σ ≡ false → own_in σ r (asking c) ≡ []
unfolding own_in
own_of_asking σ r c e = rw e refl

-- every opportunity, with its r mini-slots, lies in the contention part
module _ (B : ℕ) (st : Station) (j : Issue) (told : Contents j) (single : eqb 0x3FFF st.sid ≡ false) (fit : start_of B j + j.c < 4294967296) where
  chances_are : chances st (map_in j) ≡ map (time_at (map_in j)) (contention_in st.r (asking j.c))
  unfolding own contention
  chances_are = rw (told.gathered (own_in st.sid st.r) (own_of_grant st.sid st.r), own_of_asking st.sid st.r j.c single, told.gathered (contention_in st.r) (contention_of_grant st.r)) refl

  pub chance_at : (t : ℕ) → Memᴰ t (chances st (map_in j)) → (start_of B j ≤ at B t) × (at B t + st.r ≤ start_of B j + j.c)
  chance_at t m = go (Memᴰ.of_map (time_at (map_in j)) (contention_in st.r (asking j.c)) (subst (λ (l : List ℕ). Memᴰ t l) chances_are m))
    where
      go : (o : ℕ) × Memᴰ o (contention_in st.r (asking j.c)) × (time_at (map_in j) o ≡ t) → (start_of B j ≤ at B t) × (at B t + st.r ≤ start_of B j + j.c)
      go (o, n, e) =
          let b = contention_inside st.r (asking j.c) o n in
          let z : at B t ≡ start_of B j + o = ap (at B) (sym e ∙ ap (λ (x : ℕ). moved_on 32 x o) told.start) ∙ at_moved B j.before.next.0 o (omega arith) in
          (omega arith, omega arith)
