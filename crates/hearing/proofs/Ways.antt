-- The ways through the functions of a hearing: one law each, about the definitions only.
use mathlib.Core.Path.{◌≡◌, refl, sym, ◌∙◌}
use mathlib.Core.Bool.{Bool, true, false, not}
use Prim.Native.Nat.{ℕ, zero, suc}
use mathlib.Core.List.{List, [], ◌∷◌}
use native.Mathlib.Nat.{zero-add}
use lib.ListN.{length}
use native.Mathlib.Omega.{arith}
use lib.Dec.{ltb}
use borrow.Author.Tests.{eq-eqb, ne_eqb, not-true}
use Rattle.std.specs.declared.ops.ControlFlow.{ControlFlow}
use Rattle.std.specs.declared.ops.ControlFlow.TheVariants.{Break, Continue}
use Rattle.slots.specs.declared.time.MiniSlot.{MiniSlot}
use Rattle.slots.specs.Time.{earlier, ahead, moved_on}
use Rattle.message.specs.declared.reading.Reading.{Reading}
use Rattle.rules.specs.declared.fields.Fields.{Fields}
use Rattle.rules.specs.declared.refusal.Refusal.{Refusal}
use Rattle.message.specs.Lists.{is_empty}
use Rattle.message.specs.Map.{intervals, grants_to}
use Rattle.message.specs.Reading.{read_of, map_of}
use Rattle.message.proofs.Accepted.{accepted}
use Rattle.message.proofs.Ways.{said, said_not}
use Rattle.station.specs.declared.record.Phase.{Phase}
use Rattle.station.specs.declared.record.Phase.TheVariants.{Idle, Wanting, Deferring, Waiting}
use Rattle.station.specs.declared.record.Station.{Station}
use Rattle.station.specs.Records.{record_fault}
use Rattle.station.proofs.Ways.{NotWaiting, NotDeferring, not_waiting, not_deferring}
use Rattle.backoff.specs.Steps.{acknowledged, deferred}
use Rattle.hearing.specs.declared.answer.Hearing.{Hearing}
use Rattle.hearing.specs.declared.opportunity.Found.{Found}
use Rattle.hearing.specs.declared.hearing.Taken.{Taken}
use Rattle.hearing.specs.Opportunities.{contention, own}
use Rattle.hearing.specs.Steps.{granted, passing, offered_own, sending, waiting_since, sent_by}
use Rattle.hearing.specs.Hearing.{stale, hear_fault, has_pending, ready_phase, quiet_phase, phase_after, request_in, bursts_in, station_after, heard_unless, heard_in, hearing, hearing_of, hear_of}
use Rattle.rules.specs.declared.refusal.Reason.{Reason}
use Rattle.rules.specs.declared.refusal.Reason.TheVariants.{Channel, Description, Stale, Late}
use Rattle.rules.specs.Refusals.{refusal, unless}
use Rattle.hearing.specs.Scan.{first_of, found_in, waiting_with, passed_by, sent_in, taken_in, heard_by, hearable_in}
use Rattle.std.specs.Prelude.{Option, Some, None, Result, Ok, Err}

-- a pending is asked for in Waiting alone
module _ (b : Bool) (p : Phase) where
  pub waiting_other : NotWaiting p → false ≡ waiting_with b p
  unfolding waiting_with
  waiting_other h = not_waiting (λ q. false ≡ waiting_with b q) refl (λ size. refl) (λ exponent left retries size. refl) p h

  pub waiting_waiting : (exponent retries : ℕ) (time : MiniSlot) (size : ℕ) (r : Bool) → p ≡ Waiting exponent retries time size → r ≡ b → r ≡ waiting_with b p
  unfolding waiting_with
  waiting_waiting exponent retries time size r e h = rw e h

-- .. and changes nothing elsewhere
granted_asked : (b : Bool) (p : Phase) → granted (waiting_with b p) p ≡ granted b p
unfolding granted waiting_with
granted_asked b Idle = refl
granted_asked b (Wanting size) = refl
granted_asked b (Deferring exponent left retries size) = refl
granted_asked b (Waiting exponent retries time size) = refl

acknowledged_asked : (w : ℕ) (b : Bool) (f : Fields) (draw : ℕ) (p : Phase) → acknowledged w (waiting_with b p) f draw p ≡ acknowledged w b f draw p
unfolding acknowledged waiting_with
acknowledged_asked w b f draw Idle = refl
acknowledged_asked w b f draw (Wanting size) = refl
acknowledged_asked w b f draw (Deferring exponent left retries size) = refl
acknowledged_asked w b f draw (Waiting exponent retries time size) = refl

module _ (b : Bool) (p : Phase) where
  pub granted_other : NotWaiting p → Idle ≡ granted b p
  unfolding granted
  granted_other h = not_waiting (λ q. Idle ≡ granted b q) refl (λ size. refl) (λ exponent left retries size. refl) p h

  pub granted_pending : (exponent retries : ℕ) (time : MiniSlot) (size : ℕ) → p ≡ Waiting exponent retries time size → b ≡ true → p ≡ granted b p
  unfolding granted
  granted_pending exponent retries time size is h = rw (is, h) refl

  pub granted_alone : b ≡ false → Idle ≡ granted b p
  unfolding granted
  granted_alone h = rw h (go p)
    where
      go : (q : Phase) → Idle ≡ granted false q
      go Idle = refl
      go (Wanting size) = refl
      go (Deferring exponent left retries size) = refl
      go (Waiting exponent retries time size) = refl

-- step 4, by the first of the own Requests
abbrev deferred_to : ControlFlow MiniSlot ℕ → ℕ → ℕ → ℕ → Phase
deferred_to (Break time) exponent retries size = Waiting exponent retries time size
deferred_to (Continue left) exponent retries size = Deferring exponent left retries size

passing_deferred : (cs : List ℕ) (exponent left retries size : ℕ) → deferred_to (passed_by cs left) exponent retries size ≡ passing cs exponent left retries size
unfolding passing passed_by
passing_deferred [] exponent left retries size = refl
passing_deferred (t ∷ ts) exponent zero retries size = refl
passing_deferred (t ∷ ts) exponent (suc left) retries size = passing_deferred ts exponent left retries size

offered_deferred : (os cs : List ℕ) (exponent left retries size : ℕ) → deferred_to (sent_in (first_of None os) cs left) exponent retries size ≡ offered_own os cs exponent left retries size
unfolding offered_own sent_in first_of
offered_deferred [] cs exponent left retries size = passing_deferred cs exponent left retries size
offered_deferred (t ∷ ts) cs exponent left retries size = refl

module _ (cs : List ℕ) (first : Option MiniSlot) (left : ℕ) where
  pub sent_own : (time : MiniSlot) → first ≡ Some time → Break time ≡ sent_in first cs left
  unfolding sent_in
  sent_own time e = rw e refl

  pub sent_contention : (p : ControlFlow MiniSlot ℕ) → first ≡ None → p ≡ passed_by cs left → p ≡ sent_in first cs left
  unfolding sent_in
  sent_contention p e h = rw e h

module _ (os cs : List ℕ) (p : Phase) where
  pub sending_other : NotDeferring p → p ≡ sending os cs p
  unfolding sending
  sending_other h = not_deferring (λ q. q ≡ sending os cs q) refl (λ size. refl) (λ exponent retries time size. refl) p h

  module _ (exponent left retries size : ℕ) (is : p ≡ Deferring exponent left retries size) (first : Option MiniSlot) (of : first ≡ first_of None os) (passed : ControlFlow MiniSlot ℕ) (so : passed ≡ sent_in first cs left) where
    sending_passed : deferred_to passed exponent retries size ≡ sending os cs p
    unfolding sending
    sending_passed = rw (so, of, is) (offered_deferred os cs exponent left retries size)

    pub sending_sent : (time : MiniSlot) → passed ≡ Break time → Waiting exponent retries time size ≡ sending os cs p
    sending_sent time e = rw e at sending_passed

    pub sending_left : (left' : ℕ) → passed ≡ Continue left' → Deferring exponent left' retries size ≡ sending os cs p
    sending_left left' e = rw e at sending_passed

module _ (p : Phase) where
  pub since_other : NotWaiting p → None ≡ waiting_since p
  unfolding waiting_since
  since_other h = not_waiting (λ q. None ≡ waiting_since q) refl (λ size. refl) (λ exponent left retries size. refl) p h

  pub since_waiting : (exponent retries : ℕ) (time : MiniSlot) (size : ℕ) → p ≡ Waiting exponent retries time size → Some time ≡ waiting_since p
  unfolding waiting_since
  since_waiting exponent retries time size e = rw e refl

  module _ (after : Phase) where
    pub sent_other : NotDeferring p → None ≡ sent_by p after
    unfolding sent_by
    sent_other h = not_deferring (λ q. None ≡ sent_by q after) refl (λ size. refl) (λ exponent retries time size. refl) p h

    pub sent_deferring : (exponent left retries size : ℕ) (s : Option MiniSlot) → p ≡ Deferring exponent left retries size → s ≡ waiting_since after → s ≡ sent_by p after
    unfolding sent_by
    sent_deferring exponent left retries size s e h = rw e h

module _ (end : Option MiniSlot) (start : ℕ) where
  pub stale_never : end ≡ None → false ≡ stale 32 end start
  unfolding stale
  stale_never e = rw e refl

  pub stale_end : (time : MiniSlot) (a : ℕ) → end ≡ Some time → a ≡ ahead 32 time.0 start → not (ltb a 2147483648) ≡ stale 32 end start
  unfolding stale
  stale_end time a e h = rw (e, h) refl

module _ (st : Station) (f : Fields) (present : ℕ) where
  pub hear_12 : (f.channel ≡ st.channel → ⊥) → Err Channel ≡ hear_fault st f present
  unfolding hear_fault
  hear_12 a = rw (ne_eqb f.channel st.channel a) refl

  module _ (a : f.channel ≡ st.channel) where
    pub hear_13 : (f.count ≡ st.count → ⊥) → Err Description ≡ hear_fault st f present
    unfolding hear_fault
    hear_13 b = rw (eq-eqb f.channel st.channel a, ne_eqb f.count st.count b) refl

    module _ (b : f.count ≡ st.count) where
      pub hear_14 : stale 32 st.end f.start.0 ≡ true → Err Stale ≡ hear_fault st f present
      unfolding hear_fault
      hear_14 c = rw (eq-eqb f.channel st.channel a, eq-eqb f.count st.count b, c) refl

      pub hear_15 : stale 32 st.end f.start.0 ≡ false → not (earlier 32 present f.start.0) ≡ true → Err Late ≡ hear_fault st f present
      unfolding hear_fault
      hear_15 c d = rw (eq-eqb f.channel st.channel a, eq-eqb f.count st.count b, c, d) refl

      pub hear_good : stale 32 st.end f.start.0 ≡ false → not (earlier 32 present f.start.0) ≡ false → Ok tt ≡ hear_fault st f present
      unfolding hear_fault
      hear_good c d = rw (eq-eqb f.channel st.channel a, eq-eqb f.count st.count b, c, d) refl

some : {A : Type 0} (xs : List A) → (length xs ≡ 0 → ⊥) → not (is_empty xs) ≡ true
some [] h = absurd (h refl)
some (x ∷ xs) h = refl

none : {A : Type 0} (xs : List A) → length xs ≡ 0 → not (is_empty xs) ≡ false
none [] h = refl
none (x ∷ xs) h = absurd (omega arith)

same : {A : Type 0} {x : A} (other : A) (f : Result Unit Reason) → unless f 0 (Ok other) ≡ Ok x → ◌≡◌ {A = Result A Refusal} (Ok other) (Ok x)
same other (Err reason) b = absurd (let z : ◌≡◌ {A = ℕ} 0 1 = cc in omega arith)
same other (Ok u) b = b

-- a check of a MAP that was read refuses it
pub hear_refused : (s : List ℕ) (reading : Reading) (ok : read_of s ≡ Ok reading) (st : Station) (present draw : ℕ) (f : Result Unit Reason) → f ≡ hear_fault st reading.fields present →
    (why : Reason) → f ≡ Err why → record { station = st; answer = Err (refusal why 0) } ≡ hearing st (map_of s) present draw
unfolding hearing
hear_refused s reading ok st present draw f is why h = rw (← (accepted s reading ok).fields, sym is ∙ h) refl

-- a MAP that was read is heard, unless one of the checks refuses it
module _ (st : Station) (s : List ℕ) (present : ℕ) where
  pub hearable_record : (f : Result Unit Reason) (why : Reason) → f ≡ record_fault st → f ≡ Err why → Err (refusal why 0) ≡ hearable_in st s present
  unfolding hearable_in
  hearable_record f why is h = rw (sym is ∙ h) refl

  module _ (good : record_fault st ≡ Ok tt) (v : Result Reading Refusal) (read : v ≡ read_of s) where
    pub hearable_message : (why : Refusal) → v ≡ Err why → Err why ≡ hearable_in st s present
    unfolding hearable_in
    hearable_message why h = rw (good, sym read ∙ h) refl

    module _ (reading : Reading) (got : v ≡ Ok reading) (f : Result Unit Reason) (is : f ≡ hear_fault st reading.fields present) where
      pub hearable_map : (why : Reason) → f ≡ Err why → Err (refusal why 0) ≡ hearable_in st s present
      unfolding hearable_in
      hearable_map why h = rw (good, sym read ∙ got, sym is ∙ h) refl

      pub hearable_good : f ≡ Ok tt → Ok reading ≡ hearable_in st s present
      unfolding hearable_in
      hearable_good h = rw (good, sym read ∙ got, sym is ∙ h) refl

  -- .. and what becomes of it
  module _ (v : Result Reading Refusal) (is : v ≡ hearable_in st s present) where
    pub unheard_hear : (why : Refusal) (draw : ℕ) → v ≡ Err why → record { station = st; answer = Err why } ≡ hear_of st s present draw
    unfolding hear_of hearable_in hearing
    unheard_hear why draw h = go (record_fault st) (read_of s) refl (sym is ∙ h)
      where
        go : (f : Result Unit Reason) (r : Result Reading Refusal) → read_of s ≡ r → unless f 0 (heard_by st present r) ≡ Err why → record { station = st; answer = Err why } ≡ heard_unless st f (hearing_of st r (map_of s) present draw)
        go (Err reason) r e k = let same : refusal reason 0 ≡ why = cc in rw same refl
        go (Ok u) (Err other) e k = let same : other ≡ why = cc in rw same refl
        go (Ok u) (Ok reading) e k = map (hear_fault st reading.fields present) refl k
          where
            map : (f : Result Unit Reason) → hear_fault st reading.fields present ≡ f → unless f 0 (Ok reading) ≡ Err why → record { station = st; answer = Err why } ≡ hearing st (map_of s) present draw
            map (Err reason) a b = let same : refusal reason 0 ≡ why = cc in rw (← same) (hear_refused s reading e st present draw _ refl reason a)
            map (Ok u) a b = absurd (let z : ◌≡◌ {A = ℕ} 0 1 = cc in omega arith)

    pub heard_read : (reading : Reading) → v ≡ Ok reading → read_of s ≡ Ok reading
    unfolding hearable_in
    heard_read reading h = go (record_fault st) (read_of s) (sym is ∙ h)
      where
        go : (f : Result Unit Reason) (r : Result Reading Refusal) → unless f 0 (heard_by st present r) ≡ Ok reading → r ≡ Ok reading
        go (Err reason) r k = absurd (let z : ◌≡◌ {A = ℕ} 0 1 = cc in omega arith)
        go (Ok u) (Err other) k = absurd (let z : ◌≡◌ {A = ℕ} 0 1 = cc in omega arith)
        go (Ok u) (Ok other) k = same other (hear_fault st other.fields present) k

    pub heard_hear : (reading : Reading) (draw : ℕ) (r : Hearing) → v ≡ Ok reading → r ≡ heard_in st (map_of s) draw → r ≡ hear_of st s present draw
    unfolding hear_of hearable_in hearing
    heard_hear reading draw r h e = e ∙ go (record_fault st) (read_of s) refl (sym is ∙ h)
      where
        go : (f : Result Unit Reason) (r : Result Reading Refusal) → read_of s ≡ r → unless f 0 (heard_by st present r) ≡ Ok reading → heard_in st (map_of s) draw ≡ heard_unless st f (hearing_of st r (map_of s) present draw)
        go (Err reason) r e k = absurd (let z : ◌≡◌ {A = ℕ} 0 1 = cc in omega arith)
        go (Ok u) (Err other) e k = absurd (let z : ◌≡◌ {A = ℕ} 0 1 = cc in omega arith)
        go (Ok u) (Ok other) e k = map (hear_fault st other.fields present) refl k
          where
            map : (f : Result Unit Reason) → hear_fault st other.fields present ≡ f → unless f 0 (Ok other) ≡ Ok reading → heard_in st (map_of s) draw ≡ hearing st (map_of s) present draw
            map (Err reason) a b = absurd (let z : ◌≡◌ {A = ℕ} 0 1 = cc in omega arith)
            map (Ok u) a b = rw (← (accepted s other e).fields, a) refl

module _ (s : List ℕ) (reading : Reading) (ok : read_of s ≡ Ok reading) (st : Station) (draw : ℕ) where
  pub heard_taken : (taken : Taken) (end : MiniSlot) → taken ≡ taken_in st (map_of s) draw → end.0 ≡ moved_on 32 reading.fields.start.0 reading.length →
      ◌≡◌ {A = Hearing} (record {
        station = record { sid = st.sid; channel = st.channel; count = st.count; r = st.r; end = Some end; phase = taken.phase };
        answer = Ok taken.answer;
      }) (heard_in st (map_of s) draw)
  unfolding station_after
  heard_taken taken end t e =
      let a = accepted s reading ok in
      let at : end ≡ record { 0 = moved_on 32 reading.fields.start.0 reading.length } = λ i. record { 0 = e i } in
      rw (t, at, ← a.ends, ← a.fields) refl

-- the four steps together
module _ (s : List ℕ) (reading : Reading) (ok : read_of s ≡ Ok reading) (st : Station) (found : Found) (is : found ≡ found_in reading.fields.start.0 st.sid st.r (record { bursts = 0; own = None }) (intervals (map_of s).elements)) where
  found_bursts : found.bursts ≡ bursts_in st (map_of s)
  unfolding found_in grants_to
  found_bursts = rw (is, zero-add) refl

  pub found_own : found.own ≡ first_of None (own st.sid st.r (map_of s))
  unfolding found_in own
  found_own = rw (is, (accepted s reading ok).fields) refl

  module _ (draw : ℕ) (waits : Bool) (pending : waits ≡ waiting_with (has_pending st (map_of s)) st.phase) where
    pub taken_granted : (q : Phase) → (found.bursts ≡ 0 → ⊥) → q ≡ granted waits st.phase → record { phase = q; answer = record { bursts = found.bursts; request = None } } ≡ taken_in st (map_of s) draw
    unfolding phase_after request_in
    taken_granted q h g = rw (some (grants_to st.sid (map_of s).elements) (λ z. h (found_bursts ∙ z)), g, pending, granted_asked (has_pending st (map_of s)) st.phase, found_bursts) refl

    pub taken_quiet : (ready after : Phase) (request : Option MiniSlot) → found.bursts ≡ 0 → ready ≡ deferred reading.fields draw (acknowledged 32 waits reading.fields draw st.phase) →
        after ≡ sending (own st.sid st.r (map_of s)) (contention st.r (map_of s)) ready → request ≡ sent_by ready after →
        record { phase = after; answer = record { bursts = 0; request = request } } ≡ taken_in st (map_of s) draw
    unfolding phase_after request_in quiet_phase ready_phase
    taken_quiet ready after request h d e r =
        rw (none (grants_to st.sid (map_of s).elements) (sym found_bursts ∙ h), sym found_bursts ∙ h, r, e, d, pending, acknowledged_asked 32 (has_pending st (map_of s)) reading.fields draw st.phase, (accepted s reading ok).fields) refl

pub ruleset step_ways = (said, said_not, not-true, waiting_other, waiting_waiting, granted_other, granted_pending, granted_alone)

pub ruleset send_ways = (sent_own, sent_contention, sending_other, sending_sent, sending_left, since_other, since_waiting, sent_other, sent_deferring)

pub ruleset hear_ways = (said, said_not, not-true, stale_never, stale_end, hear_12, hear_13, hear_14, hear_15, hear_good)
