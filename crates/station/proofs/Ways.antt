-- The ways through the station's functions: one law each, about the definitions only.
use mathlib.Core.Path.{◌≡◌, refl, sym, ◌∙◌}
use mathlib.Core.Bool.{Bool, true, false, not, ◌||◌}
use Prim.Native.Nat.{ℕ}
use lib.Dec.{ltb}
use borrow.Author.Tests.{not-true}
use Rattle.std.specs.Prelude.{Result, Ok, Err}
use Rattle.rules.specs.declared.refusal.Reason.{Reason}
use Rattle.rules.specs.declared.refusal.Reason.TheVariants.{Sid, Size, Busy}
use Rattle.rules.specs.declared.refusal.Refusal.{Refusal}
use Rattle.rules.specs.Refusals.{refusal}
use Rattle.slots.specs.declared.time.MiniSlot.{MiniSlot}
use Rattle.rules.specs.Sids.{unicast}
use Rattle.rules.proofs.Ways.{said, said_not}
use Rattle.station.specs.declared.record.Phase.{Phase}
use Rattle.station.specs.declared.record.Phase.TheVariants.{Idle, Wanting, Deferring, Waiting}
use Rattle.station.specs.declared.record.Station.{Station}
use Rattle.station.specs.Records.{bad_size, bad_r, bad_phase, record_fault}
use Rattle.station.specs.Offering.{fresh, set_up_of, idle, offer_fault, wanting, offer_of}

-- an arm `_` is told that the phase is none that another arm names
abbrev pub NotWanting : Phase → Type 0
NotWanting p = (size : ℕ) → p ≡ Wanting size → ⊥

abbrev pub NotDeferring : Phase → Type 0
NotDeferring p = (exponent left retries size : ℕ) → p ≡ Deferring exponent left retries size → ⊥

abbrev pub NotWaiting : Phase → Type 0
NotWaiting p = (exponent retries : ℕ) (time : MiniSlot) (size : ℕ) → p ≡ Waiting exponent retries time size → ⊥

module _ (P : Phase → Type 0) where
  pub not_waiting : P Idle → ((size : ℕ) → P (Wanting size)) → ((exponent left retries size : ℕ) → P (Deferring exponent left retries size)) → (p : Phase) → NotWaiting p → P p
  not_waiting a b c Idle h = a
  not_waiting a b c (Wanting size) h = b size
  not_waiting a b c (Deferring exponent left retries size) h = c exponent left retries size
  not_waiting a b c (Waiting exponent retries time size) h = absurd (h exponent retries time size refl)

  pub not_deferring : P Idle → ((size : ℕ) → P (Wanting size)) → ((exponent retries : ℕ) (time : MiniSlot) (size : ℕ) → P (Waiting exponent retries time size)) → (p : Phase) → NotDeferring p → P p
  not_deferring a b c Idle h = a
  not_deferring a b c (Wanting size) h = b size
  not_deferring a b c (Deferring exponent left retries size) h = absurd (h exponent left retries size refl)
  not_deferring a b c (Waiting exponent retries time size) h = c exponent retries time size

module _ (p : Phase) where
  pub bad_idle : p ≡ Idle → false ≡ bad_phase p
  unfolding bad_phase
  bad_idle e = rw e refl

  pub bad_wanting : (size : ℕ) (b : Bool) → p ≡ Wanting size → b ≡ bad_size size → b ≡ bad_phase p
  unfolding bad_phase
  bad_wanting size b e h = rw e h

  pub bad_deferring : (exponent left retries size : ℕ) (b : Bool) → p ≡ Deferring exponent left retries size → b ≡ bad_size size → (b || ltb 15 exponent || ltb 16 retries || ltb 32767 left) ≡ bad_phase p
  unfolding bad_phase
  bad_deferring exponent left retries size b e h = rw (e, h) refl

  pub bad_waiting : (exponent retries : ℕ) (time : MiniSlot) (size : ℕ) (b : Bool) → p ≡ Waiting exponent retries time size → b ≡ bad_size size → (b || ltb 15 exponent || ltb 16 retries) ≡ bad_phase p
  unfolding bad_phase
  bad_waiting exponent retries time size b e h = rw (e, h) refl

  pub busy_idle : p ≡ Idle → false ≡ not (idle p)
  unfolding idle
  busy_idle e = rw e refl

  pub busy_other : (p ≡ Idle → ⊥) → true ≡ not (idle p)
  unfolding idle
  busy_other h = go p h
    where
      go : (q : Phase) → (q ≡ Idle → ⊥) → true ≡ not (idle q)
      go Idle n = absurd (n refl)
      go (Wanting size) n = refl
      go (Deferring exponent left retries size) n = refl
      go (Waiting exponent retries time size) n = refl

module _ (st : Station) where
  pub record_6 : unicast st.sid ≡ false → Err Sid ≡ record_fault st
  unfolding record_fault
  record_6 a = rw a refl

  pub record_r : unicast st.sid ≡ true → bad_r st.r ≡ true → Err Size ≡ record_fault st
  unfolding record_fault
  record_r a b = rw (a, b) refl

  pub record_phase : unicast st.sid ≡ true → bad_r st.r ≡ false → bad_phase st.phase ≡ true → Err Size ≡ record_fault st
  unfolding record_fault
  record_phase a b c = rw (a, b, c) refl

  pub record_good : unicast st.sid ≡ true → bad_r st.r ≡ false → bad_phase st.phase ≡ false → Ok tt ≡ record_fault st
  unfolding record_fault
  record_good a b c = rw (a, b, c) refl

  module _ (size : ℕ) (f : Result Unit Reason) (is : f ≡ record_fault st) where
    pub offer_record : (why : Reason) → f ≡ Err why → Err why ≡ offer_fault st size
    unfolding offer_fault
    offer_record why h = rw (sym is ∙ h) refl

    pub offer_16 : f ≡ Ok tt → not (idle st.phase) ≡ true → Err Busy ≡ offer_fault st size
    unfolding offer_fault
    offer_16 h a = rw (sym is ∙ h, a) refl

    pub offer_17 : f ≡ Ok tt → not (idle st.phase) ≡ false → bad_size size ≡ true → Err Size ≡ offer_fault st size
    unfolding offer_fault
    offer_17 h a b = rw (sym is ∙ h, a, b) refl

    pub offer_good : f ≡ Ok tt → not (idle st.phase) ≡ false → bad_size size ≡ false → Ok tt ≡ offer_fault st size
    unfolding offer_fault
    offer_good h a b = rw (sym is ∙ h, a, b) refl

  module _ (size : ℕ) (f : Result Unit Reason) (is : f ≡ offer_fault st size) where
    pub offer_refused : (why : Reason) (r : Refusal) → f ≡ Err why → r ≡ refusal why 0 → record { station = st; answer = Err r } ≡ offer_of st size
    unfolding offer_of
    offer_refused why r h k = rw (k, ← is, h) refl

    pub offer_taken : f ≡ Ok tt → record { station = wanting st size; answer = Ok tt } ≡ offer_of st size
    unfolding offer_of
    offer_taken h = rw (sym is ∙ h) refl

module _ (sid channel count r : ℕ) where
  pub set_up_6 : (r' : Refusal) → unicast sid ≡ false → r' ≡ refusal Sid 0 → Err r' ≡ set_up_of sid channel count r
  unfolding set_up_of
  set_up_6 r' a e = rw (a, e) refl

  pub set_up_17 : (r' : Refusal) → unicast sid ≡ true → bad_r r ≡ true → r' ≡ refusal Size 0 → Err r' ≡ set_up_of sid channel count r
  unfolding set_up_of
  set_up_17 r' a b e = rw (a, b, e) refl

  pub set_up_ready : unicast sid ≡ true → bad_r r ≡ false → Ok (fresh sid channel count r) ≡ set_up_of sid channel count r
  unfolding set_up_of
  set_up_ready a b = rw (a, b) refl

pub ruleset record_ways = (said, said_not, not-true, bad_idle, bad_wanting, bad_deferring, bad_waiting, busy_idle, busy_other, record_6, record_r, record_phase, record_good, offer_record, offer_16, offer_17, offer_good, offer_refused, offer_taken, set_up_6, set_up_17, set_up_ready)
