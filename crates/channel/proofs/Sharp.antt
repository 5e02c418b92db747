-- The theorem is sharp: for each of four premises a history without it, computed, in which a claim fails. The span is in Ancient.antt.
use mathlib.Core.Path.{◌≡◌, refl, ap}
use mathlib.Core.Bool.{true}
use mathlib.Core.List.{List, [], ◌∷◌, Memᴰ}
use Prim.Native.Nat.{ℕ}
use lib.ListN.{set}
use lib.Dec.{lit<}
use Rattle.message.specs.Reading.{map_of}
use native.Mathlib.Omega.{arith}
use Rattle.station.specs.Offering as offering
use Rattle.hearing.specs.Hearing.{hear_of}
use Rattle.headend.specs.declared.record.Request.{Request}
use Rattle.headend.specs.Requests.{held_of}
use Rattle.channel.specs.History.{Issue, bytes_of, State, station_at, Offer, Hear, Deliver, heard_by, step, after}
use Rattle.channel.specs.Claims.{GrantedAlone, HeldWaits, WaitingHeld}
use Rattle.channel.proofs.Computing.{rules}
use Rattle.channel.proofs.Claimed.{unawaited, held_alone, Outlasts, was_held}
use Rattle.channel.proofs.Histories.{start, issue, request, sends, pended, pending}
use Rattle.std.specs.Prelude.{None}

-- other requests in flight than those that were sent
abbrev with_flying : State → List Request → State
with_flying s qs = record { headend = s.headend; stations = s.stations; issues = s.issues; flying = qs; log = s.log }

-- "with different SIDs": two stations are both 5
abbrev both_five : State
both_five = record { headend = start.headend; stations = offering.fresh 5 1 2 1 ∷ offering.fresh 5 1 2 1 ∷ []; issues = []; flying = []; log = [] }

-- the grant to one makes both Idle; then the other's request arrives
abbrev twins : State
twins = after (Offer 0 3 ∷ Offer 1 4 ∷ issue 4294967290 6 6 ∷ Hear 0 0 4294967289 0 ∷ Hear 1 0 4294967289 0 ∷ Deliver 1 ∷ issue 4294967290 6 20 ∷ Hear 0 0 4294967295 0 ∷ Hear 1 0 4294967295 0 ∷ Deliver 0 ∷ [])
    both_five

-- "not repeated": the request that was sent once flies twice; the second arrives when the first was granted and heard
abbrev repeated : State
repeated = after (Deliver 0 ∷ issue 4294967290 6 20 ∷ Hear 0 0 4294967295 0 ∷ Deliver 0 ∷ [])
    (with_flying (after (Offer 0 3 ∷ issue 4294967290 6 6 ∷ Hear 0 0 4294967289 0 ∷ []) start) (request 5 3 4294967290 ∷ request 5 3 4294967290 ∷ []))

-- "and no others come": a request in station 5's name that it never sent
abbrev foreign : State
foreign = step (with_flying (step start (issue 4294967290 6 6)) (request 5 3 4294967290 ∷ [])) (Deliver 0)

-- "not altered": station 6 hears the MAP that grants station 5, its byte 21 changed so that the grant names SID 6
abbrev taken : State
taken = after (Offer 0 3 ∷ issue 4294967290 6 6 ∷ Hear 0 0 4294967289 0 ∷ Deliver 0 ∷ []) start

abbrev granting : Issue
granting = record { before = taken.headend; ack = 4294967290; c = 6; budget = 20 }

abbrev changed : List ℕ
changed = set (bytes_of granting) 21 0x19

abbrev altered : State
altered = let s = step taken (issue 4294967290 6 20) in heard_by s 1 (hear_of (station_at s 1) changed 4294967295 0) (map_of changed)

computed :
    (held_of twins.headend ≡ request 5 4 4294967290 ∷ [])
    × (unawaited 4294967290 twins.stations ≡ true)
    × (held_of repeated.headend ≡ request 5 3 4294967290 ∷ [])
    × (unawaited 4294967290 repeated.stations ≡ true)
    × (held_of foreign.headend ≡ request 5 3 4294967290 ∷ [])
    × (unawaited 4294967290 foreign.stations ≡ true)
unfolding unawaited rules
computed = (refl, refl, refl, refl, refl, refl)

pub sids_differ : HeldWaits twins → ⊥
sids_differ = held_alone twins (request 5 4 4294967290) computed.0 computed.1

-- .. and (c) fails of `pended`: the first hears the pending of the second, and goes on waiting on a request that was lost
twins_outlast : Outlasts (after pended both_five) 0 (pending both_five) (request 5 3 4294967290)
unfolding rules
twins_outlast = record { present = 4294967295; draw = 0; bursts = 0; request = None; exponent = 0; retries = 0; inside = lit< tt; issued = mathlib.Core.List.Memᴰ.head refl; accepts = refl; waits = refl; passed = refl; its = refl }

pub sids_differ_waiting : WaitingHeld (after pended both_five) → ⊥
unfolding rules
sids_differ_waiting claim =
    let held : Memᴰ (request 5 3 4294967290) (request 5 4 4294967290 ∷ []) = was_held (after pended both_five) 0 (pending both_five) (request 5 3 4294967290) claim twins_outlast in
    let sizes : ◌≡◌ {A = ℕ} 3 4 = ap (λ (q : Request). q.size) (mathlib.Core.List.Memᴰ.eq_of_singleton held) in
    omega arith

pub none_repeated : HeldWaits repeated → ⊥
none_repeated = held_alone repeated (request 5 3 4294967290) computed.2 computed.3

pub no_others : HeldWaits foreign → ⊥
no_others = held_alone foreign (request 5 3 4294967290) computed.4 computed.5

-- its burst lies in station 5's grant
pub none_altered : GrantedAlone altered → ⊥
unfolding rules
none_altered claim =
    let same : ◌≡◌ {A = ℕ} 5 6 = claim granting (mathlib.Core.List.Memᴰ.head refl) (record { sid = 5; iuc = 5; first = 6; length = 3 }) (mathlib.Core.List.Memᴰ.tail (mathlib.Core.List.Memᴰ.head refl)) refl 0 (lit< tt) (sends 6 6 3) (mathlib.Core.List.Memᴰ.head refl) 0 (lit< tt) refl in
    omega arith
