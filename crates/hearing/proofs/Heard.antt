-- What hearing does, by what a MAP holds for the station and nothing else of it.
use mathlib.Core.Path.{◌≡◌, refl, ◌∙◌}
use mathlib.Core.Bool.{Bool, true, false, cond}
use mathlib.Core.Logic.{◌⊎◌, inl, inr}
use mathlib.Core.List.{List, [], ◌∷◌, ◌++◌, Memᴰ}
use Prim.Native.Nat.{ℕ, zero, suc, ◌+◌}
use native.Mathlib.Omega.{arith}
use lib.Dec.{ltb}
use Rattle.slots.specs.declared.time.MiniSlot.{MiniSlot}
use Rattle.slots.specs.Time.{earlier}
use Rattle.rules.specs.declared.fields.Fields.{Fields}
use Rattle.message.specs.Map.{Map, grants_to, pendings_to, map_length}
use Rattle.station.specs.declared.record.Phase.{Phase}
use Rattle.station.specs.declared.record.Phase.TheVariants.{Idle, Wanting, Deferring, Waiting}
use Rattle.station.specs.declared.record.Station.{Station}
use Rattle.backoff.specs.Backoffs.{first_exponent, next_exponent, drawn}
use Rattle.backoff.specs.Steps.{lost, acknowledged, deferred}
use Rattle.hearing.specs.Opportunities.{own, contention}
use Rattle.hearing.specs.Steps.{granted, passing, offered_own, sending, waiting_since, sent_by}
use Rattle.hearing.specs.Hearing.{width, hear_fault, has_grant, has_pending, ready_phase, quiet_phase, phase_after, request_in, station_after, hearing}
use Rattle.std.specs.Prelude.{Option, Some, None}

-- two MAPs that say the same to a station
pub record Alike (st : Station) (m n : Map) : Type 0 where
  pub channel : m.fields.channel ≡ n.fields.channel
  pub count : m.fields.count ≡ n.fields.count
  pub start : m.fields.start ≡ n.fields.start
  pub ack : m.fields.ack ≡ n.fields.ack
  pub backoff : m.fields.«data» ≡ n.fields.«data»
  pub length : map_length m.elements ≡ map_length n.elements
  pub grants : grants_to st.sid m.elements ≡ grants_to st.sid n.elements
  pub pendings : pendings_to st.sid m.elements ≡ pendings_to st.sid n.elements
  pub owns : own st.sid st.r m ≡ own st.sid st.r n
  pub shared : contention st.r m ≡ contention st.r n

module _ (f g : Fields) (backoff : f.«data» ≡ g.«data») (draw : ℕ) where
  acknowledged_alike : (w : ℕ) (b : Bool) (p : Phase) → f.ack ≡ g.ack → acknowledged w b f draw p ≡ acknowledged w b g draw p
  unfolding acknowledged lost
  acknowledged_alike w b Idle e = refl
  acknowledged_alike w b (Wanting size) e = refl
  acknowledged_alike w b (Deferring exponent left retries size) e = refl
  acknowledged_alike w b (Waiting exponent retries time size) e = rw (e, backoff) refl

  deferred_alike : (p : Phase) → deferred f draw p ≡ deferred g draw p
  unfolding deferred
  deferred_alike Idle = refl
  deferred_alike (Wanting size) = rw backoff refl
  deferred_alike (Deferring exponent left retries size) = refl
  deferred_alike (Waiting exponent retries time size) = refl

module _ (st : Station) (m n : Map) (a : Alike st m n) where
  ready_alike : (draw : ℕ) → ready_phase st m draw ≡ ready_phase st n draw
  unfolding ready_phase
  ready_alike draw = rw (a.pendings, acknowledged_alike m.fields n.fields a.backoff draw (width st) (has_pending st n) st.phase a.ack, deferred_alike m.fields n.fields a.backoff draw _) refl

  quiet_alike : (draw : ℕ) → quiet_phase st m draw ≡ quiet_phase st n draw
  unfolding quiet_phase
  quiet_alike draw = rw (ready_alike draw, a.owns, a.shared) refl

  fault_alike : (present : ℕ) → hear_fault st m.fields present ≡ hear_fault st n.fields present
  unfolding hear_fault
  fault_alike present = rw (a.channel, a.count, a.start) refl

  station_alike : (draw : ℕ) → station_after st m draw ≡ station_after st n draw
  unfolding station_after phase_after
  station_alike draw = rw (quiet_alike draw, a.grants, a.pendings, a.start, a.length) refl

  request_alike : (draw : ℕ) → request_in st m draw ≡ request_in st n draw
  unfolding request_in
  request_alike draw = rw (a.grants, ready_alike draw, quiet_alike draw) refl

  pub hearing_alike : (present draw : ℕ) → hearing st m present draw ≡ hearing st n present draw
  unfolding hearing
  hearing_alike present draw = rw (fault_alike present, station_alike draw, request_alike draw, a.grants) refl

-- What becomes of a phase where there is no grant. Silent: no request; and if the station waits, it waited before, with a pending or an Ack Time that is not later.
-- Spoke: one request, in one of the MAP's opportunities, on which it now waits.
pub data Outcome (w : ℕ) (pending : Bool) (ack : ℕ) (ts : List ℕ) (before after : Phase) (request : Option MiniSlot) : Type 0 where
  silent : request ≡ None → ((exponent retries : ℕ) (time : MiniSlot) (size : ℕ) → after ≡ Waiting exponent retries time size → (before ≡ Waiting exponent retries time size) × ((pending ≡ true) ⊎ (earlier w time.0 ack ≡ false))) → Outcome w pending ack ts before after request
  spoke : (exponent retries : ℕ) (time : MiniSlot) (size : ℕ) → after ≡ Waiting exponent retries time size → request ≡ Some time → Memᴰ time.0 ts → Outcome w pending ack ts before after request

Passed : (cs : List ℕ) (exponent left retries size : ℕ) → Type 0
Passed cs exponent left retries size = ((k : ℕ) × (passing cs exponent left retries size ≡ Deferring exponent k retries size)) ⊎ ((t : ℕ) × Memᴰ t cs × (passing cs exponent left retries size ≡ Waiting exponent retries (record { 0 = t }) size))

passed_either : (cs : List ℕ) (exponent left retries size : ℕ) → Passed cs exponent left retries size
unfolding passing Passed
passed_either [] exponent left retries size = inl (left, refl)
passed_either (t ∷ ts) exponent zero retries size = inr (t, Memᴰ.head refl, refl)
passed_either (t ∷ ts) exponent (suc left) retries size = go (passed_either ts exponent left retries size)
  where
    go : Passed ts exponent left retries size → Passed (t ∷ ts) exponent (suc left) retries size
    go (inl a) = inl a
    go (inr (x, m, e)) = inr (x, Memᴰ.tail m, e)

module _ (w : ℕ) (pending : Bool) (ack : ℕ) (os cs : List ℕ) (before : Phase) where
  idle : Outcome w pending ack (os ++ cs) before Idle None
  idle = silent refl (λ exponent retries time size e. let z : ◌≡◌ {A = ℕ} 0 1 = cc in absurd (omega arith))

  still : (exponent retries : ℕ) (time : MiniSlot) (size : ℕ) → before ≡ Waiting exponent retries time size → (pending ≡ true) ⊎ (earlier w time.0 ack ≡ false) → Outcome w pending ack (os ++ cs) before (Waiting exponent retries time size) None
  still exponent retries time size e h = silent refl (λ exponent' retries' time' size' f. (e ∙ f, (let z : time ≡ time' = cc in rw (← z) h)))

module _ (w : ℕ) (pending : Bool) (ack : ℕ) (before : Phase) (cs : List ℕ) (exponent left retries size : ℕ) where
  deferring : (os : List ℕ) → Outcome w pending ack (os ++ cs) before (offered_own os cs exponent left retries size) (waiting_since (offered_own os cs exponent left retries size))
  unfolding offered_own waiting_since Passed
  deferring (t ∷ ts) = spoke exponent retries (record { 0 = t }) size refl refl (Memᴰ.head refl)
  deferring [] = go (passed_either cs exponent left retries size)
    where
      go : Passed cs exponent left retries size → Outcome w pending ack cs before (passing cs exponent left retries size) (waiting_since (passing cs exponent left retries size))
      go (inl (k, e)) = rw e (silent refl (λ exponent' retries' time' size' f. let z : ◌≡◌ {A = ℕ} 0 1 = cc in absurd (omega arith)))
      go (inr (t, m, e)) = rw e (spoke exponent retries (record { 0 = t }) size refl refl m)

module _ (w : ℕ) (pending : Bool) (f : Fields) (draw : ℕ) (os cs : List ℕ) where
  quiet_outcome : (p : Phase) → let ready = deferred f draw (acknowledged w pending f draw p) in
      Outcome w pending f.ack.0 (os ++ cs) p (sending os cs ready) (sent_by ready (sending os cs ready))
  unfolding sending deferred acknowledged sent_by lost
  quiet_outcome Idle = idle w pending f.ack.0 os cs Idle
  quiet_outcome (Wanting size) = deferring w pending f.ack.0 (Wanting size) cs (first_exponent f) (drawn draw (first_exponent f)) 0 size os
  quiet_outcome (Deferring exponent left retries size) = deferring w pending f.ack.0 (Deferring exponent left retries size) cs exponent left retries size os
  quiet_outcome (Waiting exponent retries time size) = go pending refl (earlier w time.0 f.ack.0) refl (ltb 16 (retries + 1))
    where
      next : ℕ
      next = next_exponent f exponent

      go : (b : Bool) → pending ≡ b → (l : Bool) → earlier w time.0 f.ack.0 ≡ l → (d : Bool) →
          let ready = deferred f draw (cond b (Waiting exponent retries time size) (cond l (cond d Idle (Deferring next (drawn draw next) (retries + 1) size)) (Waiting exponent retries time size))) in
          Outcome w pending f.ack.0 (os ++ cs) (Waiting exponent retries time size) (sending os cs ready) (sent_by ready (sending os cs ready))
      go true e l k d = still w pending f.ack.0 os cs (Waiting exponent retries time size) exponent retries time size refl (inl e)
      go false e false k d = still w pending f.ack.0 os cs (Waiting exponent retries time size) exponent retries time size refl (inr k)
      go false e true k true = idle w pending f.ack.0 os cs (Waiting exponent retries time size)
      go false e true k false = deferring w pending f.ack.0 (Waiting exponent retries time size) cs next (drawn draw next) (retries + 1) size os

module _ (st : Station) (m : Map) (draw : ℕ) where
  -- there is a grant: no request; Idle, but for a Waiting station with a pending
  pub hear_granted : has_grant st m ≡ true → (phase_after st m draw ≡ granted (has_pending st m) st.phase) × (request_in st m draw ≡ None)
  unfolding phase_after request_in
  hear_granted g = (rw g refl, rw g refl)

  pub hear_idle : has_grant st m ≡ true → has_pending st m ≡ false → (phase_after st m draw ≡ Idle) × (request_in st m draw ≡ None)
  unfolding granted
  hear_idle g h = let a = hear_granted g in (a.0 ∙ rw h (go st.phase), a.1)
    where
      go : (p : Phase) → granted false p ≡ Idle
      go Idle = refl
      go (Wanting size) = refl
      go (Deferring exponent left retries size) = refl
      go (Waiting exponent retries time size) = refl

  -- there is none
  pub hear_outcome : has_grant st m ≡ false → Outcome (width st) (has_pending st m) m.fields.ack.0 (own st.sid st.r m ++ contention st.r m) st.phase (phase_after st m draw) (request_in st m draw)
  unfolding phase_after request_in quiet_phase ready_phase
  hear_outcome g = rw g (quiet_outcome (width st) (has_pending st m) m.fields draw (own st.sid st.r m) (contention st.r m) st.phase)

  -- .. and the station waits, with a pending or an Ack Time that is not later: as it was
  pub hear_still : (exponent retries : ℕ) (time : MiniSlot) (size : ℕ) → has_grant st m ≡ false → st.phase ≡ Waiting exponent retries time size → (has_pending st m ≡ true) ⊎ (earlier (width st) time.0 m.fields.ack.0 ≡ false) →
      (phase_after st m draw ≡ Waiting exponent retries time size) × (request_in st m draw ≡ None)
  unfolding phase_after request_in quiet_phase ready_phase sending deferred acknowledged sent_by
  hear_still exponent retries time size g is (inl h) = (rw (g, is, h) refl, rw (g, is, h) refl)
  hear_still exponent retries time size g is (inr h) = go (has_pending st m) refl
    where
      go : (b : Bool) → has_pending st m ≡ b → (phase_after st m draw ≡ Waiting exponent retries time size) × (request_in st m draw ≡ None)
      go true e = (rw (g, is, e) refl, rw (g, is, e) refl)
      go false e = (rw (g, is, e, h) refl, rw (g, is, e, h) refl)
