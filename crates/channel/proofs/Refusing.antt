-- Each call comes to one of two: refused, and nothing changes; or passed, and what is known then.
use mathlib.Core.Path.{◌≡◌, refl}
use mathlib.Core.Bool.{false, not}
use mathlib.Core.Logic.{◌⊎◌, inl, inr}
use mathlib.Core.List.{List}
use Prim.Native.Nat.{ℕ, ◌+◌, ◌*◌, ◌%◌, ◌^◌, ◌≤◌, ◌<◌}
use native.Mathlib.Omega.{arith}
use lib.Dec.{eqb}
use borrow.Author.Tests.{not-false}
use Rattle.rules.specs.declared.fields.Fields.{Fields}
use Rattle.rules.specs.declared.refusal.Refusal.{Refusal}
use Rattle.rules.specs.Refusals.{refusal}
use Rattle.message.specs.Map.{Map}
use Rattle.message.specs.Reading.{read_of, map_of}
use Rattle.message.proofs.Ways.{passed}
use Rattle.station.specs.declared.record.Phase.{Phase}
use Rattle.station.specs.declared.record.Phase.TheVariants.{Idle, Wanting, Deferring, Waiting}
use Rattle.station.specs.declared.record.Station.{Station}
use Rattle.station.specs.Records as station
use Rattle.station.specs.Offering.{idle, offer_fault, wanting, offer_of}
use Rattle.hearing.specs.declared.answer.Hearing.{Hearing}
use Rattle.hearing.specs.Hearing.{stale, hear_fault, bursts_in, request_in, station_after, unheard, hearing, hear_of}
use Rattle.headend.proofs.Checks.{handed_on}
use Rattle.issuing.specs.Issue.{issue_fault, issue_of}
use Rattle.channel.specs.History.{State, Issue', step}
use Rattle.channel.proofs.Timing.{at, onward_at}
use Rattle.channel.proofs.Contents.{issue_called}
use Rattle.channel.proofs.Invariant.{up_to, heard_to}
use Rattle.std.specs.Prelude.{Option, Some, None, Result, Ok, Err}
use Rattle.slots.specs.declared.time.MiniSlot.{MiniSlot}
use Rattle.message.specs.declared.reading.Reading.{Reading}
use Rattle.rules.specs.declared.refusal.Reason.{Reason}
use Rattle.rules.specs.declared.refusal.Reason.TheVariants.{Channel, Description, Stale, Busy}

-- an accepted hearing
abbrev pub heard : Station → Map → ℕ → Hearing
heard st m draw = record { station = station_after st m draw; answer = Ok (record { bursts = bursts_in st m; request = request_in st m draw }) }

module _ (st : Station) (bytes : List ℕ) (present draw : ℕ) where
  abbrev pub Either : Type 0
  Either = ((why : Refusal) × (hear_of st bytes present draw ≡ unheard st why)) ⊎ ((hear_of st bytes present draw ≡ heard st (map_of bytes) draw) × (hear_fault st (map_of bytes).fields present ≡ Ok tt))

  pub hear_either : Either
  unfolding hear_of hearing
  hear_either = known (station.record_fault st) refl
    where
      passes : station.record_fault st ≡ Ok tt → (v : Result Reading Refusal) → read_of bytes ≡ v → (b : Result Unit Reason) → hear_fault st (map_of bytes).fields present ≡ b → Either
      passes k (Err why) r b f = inl (why, rw (k, r) refl)
      passes k (Ok reading) r (Err why) f = inl (refusal why 0, rw (k, r, f) refl)
      passes k (Ok reading) r (Ok u) f = inr (rw (k, r, f) refl, f)

      known : (b : Result Unit Reason) → station.record_fault st ≡ b → Either
      known (Err why) k = inl (refusal why 0, rw k refl)
      known (Ok u) k = passes k (read_of bytes) refl (hear_fault st (map_of bytes).fields present) refl

-- rule 14: a MAP that is accepted does not start before the remembered end
module _ (B : ℕ) where
  pub accepted_fresh : (st : Station) (f : Fields) (present : ℕ) → heard_to B st < 2147483648 → at B f.start.0 < 2147483648 → hear_fault st f present ≡ Ok tt → heard_to B st ≤ at B f.start.0
  unfolding hear_fault stale
  accepted_fresh st f present hs hf e =
      let a = passed (not (eqb f.channel st.channel)) Channel _ e in
      let b = passed (not (eqb f.count st.count)) Description _ a.1 in
      let c = passed (stale 32 st.end f.start.0) Stale _ b.1 in
      go st.end hs c.0
    where
      go : (r : Option MiniSlot) → up_to B r < 2147483648 → stale 32 r f.start.0 ≡ false → up_to B r ≤ at B f.start.0
      go None lo t = omega arith
      go (Some x) lo t = onward_at B x.0 f.start.0 lo hf (not-false _ t)

-- only an Idle station takes an offer
is_idle : (p : Phase) → not (idle p) ≡ false → p ≡ Idle
unfolding idle
is_idle Idle e = refl
is_idle (Wanting n) e = let z : ◌≡◌ {A = ℕ} 0 1 = cc in absurd (omega arith)
is_idle (Deferring x l r n) e = let z : ◌≡◌ {A = ℕ} 0 1 = cc in absurd (omega arith)
is_idle (Waiting x r t n) e = let z : ◌≡◌ {A = ℕ} 0 1 = cc in absurd (omega arith)

pub offer_either : (st : Station) (size : ℕ) → ((offer_of st size).station ≡ st) ⊎ (((offer_of st size).station ≡ wanting st size) × (st.phase ≡ Idle))
unfolding offer_of offer_fault
offer_either st size = go (offer_fault st size) refl
  where
    go : (b : Result Unit Reason) → offer_fault st size ≡ b → ((offer_of st size).station ≡ st) ⊎ (((offer_of st size).station ≡ wanting st size) × (st.phase ≡ Idle))
    go (Err why) f = inl (rw f refl)
    go (Ok u) f = inr (rw f refl, is_idle st.phase (passed (not (idle st.phase)) Busy _ (handed_on (station.record_fault st) _ f).1).0)

-- "11: Room: lent bytes too few": an issue without room changes nothing, whatever else it asks
pub no_room : (s : State) (ack c budget room : ℕ) → room < 24 + 4 * s.headend.held → step s (Issue' ack c budget room) ≡ s
unfolding step issue_of
no_room s ack c budget room few = go (issue_fault s.headend (ack % 2 ^ 32) c budget room) refl
  where
    go : (b : Result Unit Reason) → issue_fault s.headend (ack % 2 ^ 32) c budget room ≡ b → step s (Issue' ack c budget room) ≡ s
    go (Err why) e = rw e refl
    go (Ok u) e = let z = issue_called s.headend (ack % 2 ^ 32) c budget room e in absurd (omega arith)
