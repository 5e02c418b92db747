-- The theorem is not empty: three histories, written out and computed, that meet its premises.
use mathlib.Core.Path.{◌≡◌, refl}
use mathlib.Core.Bool.{Bool, true, ◌&&◌}
use mathlib.Core.List.Memᴰ
use mathlib.Core.List.{List, [], ◌∷◌, Memᴰ}
use Prim.Native.Nat.{ℕ, zero, suc, ◌^◌, ◌<◌}
use native.Mathlib.Omega.{arith}
use lib.Dec.{ltb, lit<}
use borrow.Author.Tests.{ltb-true}
use lib.ListN.{take}
use Rattle.slots.specs.Time.{ahead, half}
use Rattle.rules.specs.declared.refusal.Reason.TheVariants.{Room}
use Rattle.rules.specs.Refusals.{refusal}
use Rattle.message.specs.Map.{end_of}
use Rattle.station.specs.declared.record.Phase.TheVariants.{Idle, Waiting}
use Rattle.station.specs.Offering as offering
use Rattle.headend.specs.declared.record.Request.{Request}
use Rattle.headend.specs.Requests.{held_of}
use Rattle.headend.specs.Records as records
use Rattle.channel.specs.History.{Issue, map_in, Sending, State, station_at, Event, Offer, Issue', Hear, Deliver, Lose, asked, issuing, step, after}
use Rattle.channel.specs.Claims.{FreshStation, Fresh, Within, Safe}
use Rattle.channel.proofs.Computing.{rules}
use Rattle.channel.proofs.Keeping.{and_left, and_right, each_cons}
use Rattle.channel.proofs.Claimed.{Outlasts, was_held}
use Rattle.channel.proofs.Refusing.{no_room}
use Rattle.channel.proofs.Spanning.{safe}
use Rattle.std.specs.Prelude.{None, Err}

-- a headend on channel 1, description 2, with this next start, and stations 5 and 6
abbrev pub start_at : ℕ → State
start_at next = record {
  headend = records.fresh (record { 0 = next }) 1 2 (record { start = 0; end = 4 }) (record { start = 0; end = 4 }) 100;
  stations = offering.fresh 5 1 2 1 ∷ offering.fresh 6 1 2 1 ∷ [];
  issues = [];
  flying = [];
  log = [];
}

-- six mini-slots before the counter rolls over
abbrev pub start : State
start = start_at 4294967290

abbrev pub request : ℕ → ℕ → ℕ → Request
request sid size first = record { sid = sid; size = size; first = record { 0 = first } }

abbrev pub sends : ℕ → ℕ → ℕ → Sending
sends sid first size = record { sid = sid; first = first; size = size }

-- an issue with room for 64 held
abbrev pub issue : ℕ → ℕ → ℕ → Event
issue ack c budget = Issue' ack c budget 280

-- a request is sent, taken, granted and heard, and the station is Idle again
abbrev pub served : List Event
served = Offer 0 3 ∷ issue 4294967290 6 6 ∷ Hear 0 0 4294967289 0 ∷ Deliver 0 ∷ issue 4294967290 6 20 ∷ Hear 0 0 4294967295 0 ∷ []

-- both stations send in one mini-slot and neither is heard; both try again, are taken and granted
abbrev pub collided : List Event
collided =
    Offer 0 3 ∷ Offer 1 4 ∷ issue 4294967290 6 6 ∷ Hear 0 0 4294967289 0 ∷ Hear 1 0 4294967289 0 ∷ Lose 0 ∷ Lose 0
    ∷ issue 4294967291 6 6 ∷ Hear 0 0 4294967295 0 ∷ Hear 1 0 4294967295 1 ∷ Deliver 1 ∷ Deliver 0
    ∷ issue 2 6 20 ∷ Hear 0 0 5 0 ∷ Hear 1 0 5 0 ∷ []

-- both send; the one's request is lost, the other's is taken and does not fit: the next MAP leaves it pending, and its Ack Time is later than both
abbrev pub pended : List Event
pended = Offer 0 3 ∷ Offer 1 4 ∷ issue 4294967290 6 6 ∷ Hear 0 0 4294967289 0 ∷ Hear 1 0 4294967289 0 ∷ Lose 1 ∷ Deliver 0 ∷ issue 4294967291 6 6 ∷ []

-- all starts and ends less than 2^31 ahead of E
unfoldable pub fitting : ℕ → List Issue → Bool
fitting E [] = true
fitting E (j ∷ js) = ltb (ahead 32 E (map_in j).fields.start.0) (half 32) && ltb (ahead 32 E (end_of (map_in j))) (half 32) && fitting E js

pub computed :
    ((after (take 3 served) start).flying ≡ request 5 3 4294967290 ∷ [])
    × (held_of (after (take 4 served) start).headend ≡ request 5 3 4294967290 ∷ [])
    × (held_of (after served start).headend ≡ [])
    × ((after served start).log ≡ sends 5 6 3 ∷ sends 5 4294967290 1 ∷ [])
    × ((station_at (after served start) 0).phase ≡ Idle)
    × (fitting 4294967290 (after served start).issues ≡ true)
    × ((after (take 5 collided) start).log ≡ sends 6 4294967290 1 ∷ sends 5 4294967290 1 ∷ [])
    × ((station_at (after (take 10 collided) start) 1).phase ≡ Waiting 1 1 (record { 0 = 1 }) 4)
    × (held_of (after (take 12 collided) start).headend ≡ request 5 3 0 ∷ request 6 4 1 ∷ [])
    × ((after collided start).log ≡ sends 6 15 4 ∷ sends 5 12 3 ∷ sends 6 1 1 ∷ sends 5 0 1 ∷ sends 6 4294967290 1 ∷ sends 5 4294967290 1 ∷ [])
    × ((station_at (after collided start) 0).phase ≡ Idle)
    × ((station_at (after collided start) 1).phase ≡ Idle)
    × (fitting 4294967290 (after collided start).issues ≡ true)
    × (fitting 4294967290 (after pended start).issues ≡ true)
unfolding fitting rules
computed = (refl, refl, refl, refl, refl, refl, refl, refl, refl, refl, refl, refl, refl, refl)

-- one byte too few for one held: 11, and nothing changes
pub crowded :
    let taken = after (take 4 served) start in
    ((issuing (asked taken 4294967290 6 20) 27).answer ≡ Err (refusal Room 0)) × (step taken (Issue' 4294967290 6 20 27) ≡ taken)
unfolding rules
crowded = (refl, no_room (after (take 4 served) start) 4294967290 6 20 27 (lit< tt))

within : (s : State) (E : ℕ) → fitting E s.issues ≡ true → Within s E
unfolding fitting
within s E e = let w = all s.issues e in record { starts = λ j m. (w j m).0; ends = λ j m. (w j m).1 }
  where
    all : (js : List Issue) → fitting E js ≡ true → (j : Issue) → Memᴰ j js → (ahead 32 E (map_in j).fields.start.0 < half 32) × (ahead 32 E (end_of (map_in j)) < half 32)
    all [] e j m = absurd (Memᴰ.not-nil m)
    all (k ∷ ks) e j m =
        let both = and_left (ltb (ahead 32 E (map_in k).fields.start.0) (half 32) && ltb (ahead 32 E (end_of (map_in k))) (half 32)) (fitting E ks) e in
        each_cons (λ (j : Issue). (ahead 32 E (map_in j).fields.start.0 < half 32) × (ahead 32 E (end_of (map_in j)) < half 32)) k ks
        (ltb-true _ _ (and_left (ltb (ahead 32 E (map_in k).fields.start.0) (half 32)) _ both), ltb-true _ _ (and_right (ltb (ahead 32 E (map_in k).fields.start.0) (half 32)) _ both))
        (all ks (and_right (ltb (ahead 32 E (map_in k).fields.start.0) (half 32) && ltb (ahead 32 E (end_of (map_in k))) (half 32)) (fitting E ks) e)) j m

pub fresh_start : (next : ℕ) → next < 2 ^ 32 → Fresh (start_at next)
unfolding records.set_up_of offering.set_up_of
fresh_start next clock = record {
  channel = 1;
  count = 2;
  headend = record { next = record { 0 = next }; ranging = record { start = 0; end = 4 }; data_backoff = record { start = 0; end = 4 }; short = 100; set_up = refl; clock = clock };
  stations = set_up;
  different = different;
  none_issued = refl;
  none_flying = refl;
  none_sent = refl;
}
  where
    set_up : (i : ℕ) → i < 2 → FreshStation (station_at (start_at next) i) 1 2
    set_up zero h = record { sid = 5; r = 1; set_up = refl }
    set_up (suc zero) h = record { sid = 6; r = 1; set_up = refl }
    set_up (suc (suc i)) h = absurd (omega arith)

    different : (i k : ℕ) → i < 2 → k < 2 → (station_at (start_at next) i).sid ≡ (station_at (start_at next) k).sid → i ≡ k
    different zero zero h g e = refl
    different zero (suc zero) h g e = absurd (omega arith)
    different (suc zero) zero h g e = absurd (omega arith)
    different (suc zero) (suc zero) h g e = refl
    different zero (suc (suc k)) h g e = absurd (omega arith)
    different (suc zero) (suc (suc k)) h g e = absurd (omega arith)
    different (suc (suc i)) k h g e = absurd (omega arith)

start_fresh : Fresh start
start_fresh = fresh_start 4294967290 (lit< tt)

-- so the theorem speaks of all three
pub served_safe : Safe (after served start)
served_safe = safe start start_fresh served 4294967290 (within (after served start) 4294967290 computed.5)

pub collided_safe : Safe (after collided start)
collided_safe = safe start start_fresh collided 4294967290 (within (after collided start) 4294967290 computed.12)

pub pended_safe : Safe (after pended start)
pended_safe = safe start start_fresh pended 4294967290 (within (after pended start) 4294967290 computed.13)

-- (c) has something to say: station 6 hears that MAP and waits on, past its Ack Time
abbrev pub pending : State → Issue
pending s = asked (after (take 7 pended) s) 4294967291 6 6

pub pended_outlasts : Outlasts (after pended start) 1 (pending start) (request 6 4 4294967290)
unfolding rules
pended_outlasts = record { present = 4294967295; draw = 0; bursts = 0; request = None; exponent = 0; retries = 0; inside = lit< tt; issued = Memᴰ.head refl; accepts = refl; waits = refl; passed = refl; its = refl }

-- .. on the request that was held when the MAP was issued
pub pended_held : Memᴰ (request 6 4 4294967290) (held_of (pending start).before)
pended_held = was_held (after pended start) 1 (pending start) (request 6 4 4294967290) pended_safe.waiting_held pended_outlasts
