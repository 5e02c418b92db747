-- The invariant. All times are distances from the headend's first next start B.
use mathlib.Core.Path.{◌≡◌}
use mathlib.Core.Bool.{true, false, ◌&&◌}
use mathlib.Core.Logic.{◌⊎◌}
use mathlib.Core.List.{List, [], ◌∷◌, Memᴰ}
use Prim.Native.Nat.{ℕ, ◌+◌, ◌≤◌, ◌<◌}
use lib.Dec.{leb, eqb}
use lib.ListN.{length}
use Rattle.message.specs.Lists.{keep}
use Rattle.rules.specs.Rules.{granting}
use Rattle.message.specs.Map.{Interval, intervals, map_length}
use Rattle.station.specs.declared.record.Phase.{Phase}
use Rattle.station.specs.declared.record.Phase.TheVariants.{Waiting}
use Rattle.station.specs.declared.record.Station.{Station}
use Rattle.headend.specs.declared.record.Request.{Request}
use Rattle.headend.specs.Requests.{held_of}
use Rattle.channel.specs.History.{Issue, map_in, Sending, State, station_at}
use Rattle.channel.proofs.Timing.{at}
use Rattle.issuing.proofs.Planned.{of_sid}
use Rattle.channel.proofs.Holding.{Places}
use Rattle.channel.proofs.Contents.{granted_by, pending_by, Contents}
use Rattle.std.specs.Prelude.{Option, Some, None}
use Rattle.slots.specs.declared.time.MiniSlot.{MiniSlot}

abbrev pub length_of : Issue → ℕ
length_of j = map_length (map_in j).elements

-- the station waits on q
abbrev pub Waits : Phase → Request → Type 0
Waits p q = (exponent : ℕ) × (retries : ℕ) × (p ≡ Waiting exponent retries q.first q.size)

-- nothing of σ's in the MAP
abbrev pub Clear : ℕ → Issue → Type 0
Clear σ j = (of_sid σ (granted_by j) ≡ []) × (of_sid σ (pending_by j) ≡ [])

-- what set-up made sure of
pub record Steady (sid r : ℕ) : Type 0 where
  pub single : eqb 0x3FFF sid ≡ false
  pub nonzero : eqb 0 sid ≡ false
  pub asks : 1 ≤ r

module _ (B : ℕ) where
  abbrev pub start_of : Issue → ℕ
  start_of j = at B j.before.next.0

  abbrev pub end_of : Issue → ℕ
  end_of j = start_of j + length_of j

  -- q was taken when the next start was d. A MAP from before that is clear, and its Ack Time is not later than q; a MAP from then on has q's pending, whatever it grants
  abbrev pub Carried : ℕ → Request → ℕ → Issue → Type 0
  Carried σ q d j = ((start_of j < d) × Clear σ j × (at B j.ack ≤ at B q.first.0)) ⊎ ((d ≤ start_of j) × (of_sid σ (pending_by j) ≡ q ∷ []))

  -- each MAP that starts at lo or later, and before hi
  abbrev pub Window : (Issue → Type 0) → ℕ → ℕ → List Issue → Type 0
  Window P lo hi js = (j : Issue) → Memᴰ j js → lo ≤ start_of j → start_of j < hi → P j

  -- the MAPs follow one another without a gap, the newest first; N is the end of the newest, 0 before there is one
  abbrev pub Chained : ℕ → List Issue → Type 0
  Chained N [] = N ≡ 0
  Chained N (j ∷ js) = (N ≡ end_of j) × (1 ≤ length_of j) × Chained (start_of j) js

  -- σ's requests in flight that the headend could still take: not earlier than its Ack Time a
  abbrev pub live : ℕ → ℕ → List Request → List Request
  live σ a qs = keep (λ q. eqb q.sid σ && leb a (at B q.first.0)) qs

  -- a station with SID σ in phase p, that has heard MAPs up to e; N is the next start, h and f are what is σ's of the requests held, and live of those in flight
  pub data Case (σ : ℕ) (p : Phase) (e N : ℕ) (h f : List Request) (js : List Issue) : Type 0 where
    -- nothing of its own is held, or live in flight, or in a MAP that it may still hear; nothing is said of the phase
    quiet : h ≡ [] → f ≡ [] → Window (Clear σ) e N js → Case σ p e N h f js
    -- it waits on q, which is in flight
    flying : (q : Request) → Waits p q → h ≡ [] → f ≡ q ∷ [] → at B q.first.0 < N → Window (Clear σ) e N js → Case σ p e N h f js
    -- it waits on q, which the headend holds
    held : (q : Request) (d : ℕ) → Waits p q → h ≡ q ∷ [] → f ≡ [] → at B q.first.0 < N → d ≤ N → Window (Carried σ q d) e N js → Case σ p e N h f js
    -- it waits on q, which MAP g grants; g is not heard yet
    granted : (q : Request) (d : ℕ) (g : Issue) → Waits p q → h ≡ [] → f ≡ [] → at B q.first.0 < N → Memᴰ g js → e ≤ start_of g →
        of_sid σ (granted_by g) ≡ q ∷ [] → of_sid σ (pending_by g) ≡ [] → Window (Carried σ q d) e (start_of g) js → Window (Clear σ) (end_of g) N js → Case σ p e N h f js

  -- the remembered end, 0 before the first MAP
  abbrev pub up_to : Option MiniSlot → ℕ
  up_to None = 0
  up_to (Some e) = at B e.0

  abbrev pub heard_to : Station → ℕ
  heard_to st = up_to st.end

  pub record Fits (s : State) (st : Station) : Type 0 where
    pub steady : Steady st.sid st.r
    pub upto : heard_to st ≤ at B s.headend.next.0
    pub which : Case st.sid st.phase (heard_to st) (at B s.headend.next.0) (of_sid st.sid (held_of s.headend)) (live st.sid (at B s.headend.ack.0) s.flying) s.issues

  -- a sending lies in the contention part of a MAP, or is a grant of the MAP to its SID
  pub data Covered (x : Sending) (j : Issue) : Type 0 where
    in_contention : start_of j ≤ at B x.first → at B x.first + x.size ≤ start_of j + j.c → Covered x j
    in_grant : (k : Interval) → Memᴰ k (intervals (map_in j).elements) → granting k.iuc ≡ true → k.sid ≡ x.sid →
        at B x.first ≡ start_of j + k.first → x.size ≡ k.length → Covered x j

  -- who sent a request
  abbrev pub Owned : State → Request → Type 0
  Owned s q = (i : ℕ) × (i < length s.stations) × ((station_at s i).sid ≡ q.sid)

  -- the MAPs issued, up to the next start and the Ack Time
  pub record Line (next ack : ℕ) (js : List Issue) : Type 0 where
    pub chain : Chained (at B next) js
    pub ack_next : at B ack ≤ at B next
    pub acks : (j : Issue) → Memᴰ j js → (at B j.ack ≤ start_of j) × (at B j.ack ≤ at B ack)
    pub contents : (j : Issue) → Memᴰ j js → Contents j
    pub clock : next < 4294967296

  pub record Inv (s : State) : Type 0 where
    pub line : Line s.headend.next.0 s.headend.ack.0 s.issues
    pub places : Places s.headend
    pub apart : (i k : ℕ) → i < length s.stations → k < length s.stations → (station_at s i).sid ≡ (station_at s k).sid → i ≡ k
    pub each : (i : ℕ) → i < length s.stations → Fits s (station_at s i)
    pub covered : (x : Sending) → Memᴰ x s.log → (j : Issue) × Memᴰ j s.issues × Covered x j
    pub owned_flying : (q : Request) → Memᴰ q s.flying → Owned s q
    pub owned_held : (q : Request) → Memᴰ q (held_of s.headend) → Owned s q
