-- One law for each way through the functions of this crate, about the definitions alone.
use mathlib.Core.Path.{◌≡◌, refl}
use mathlib.Core.Bool.{Bool, true, false, cond, ◌||◌}
use mathlib.Core.List.{List}
use Prim.Native.Nat.{ℕ, ◌<◌}
use native.Mathlib.Omega.{arith}
use lib.Dec.{ltb, eqb}
use lib.ListN.{get_or}
use borrow.Author.Tests.{ne_eqb, ltb-false}
use Rattle.station.specs.declared.record.Station.{Station}
use Rattle.station.specs.declared.record.Phase.{Phase}
use Rattle.station.specs.declared.record.Phase.TheVariants.{Idle, Wanting, Deferring, Waiting}
use Rattle.slots.specs.declared.time.MiniSlot.{MiniSlot}
use Rattle.std.specs.Bool.{then_some}
use Rattle.std.specs.Prelude.{not, Option, Some, None, Result, Ok, Err}
use Rattle.firmware.specs.declared.layout.Parts.{Parts}
use Rattle.rules.specs.declared.refusal.Reason.TheVariants.{Size}
use Rattle.rules.specs.declared.refusal.Refusal.{Refusal}
use Rattle.rules.specs.Refusals.{refusal}
use Rattle.station.specs.Offering.{offer_of}
use Rattle.hearing.specs.declared.answer.Answer.{Answer}
use Rattle.hearing.specs.Hearing.{hear_of}
use Rattle.firmware.specs.Codes.{code_of}
use Rattle.firmware.specs.Scan.{station_in, taken_by, offered_to, heard_by, heard_at}
use Rattle.firmware.specs.Calls.{code_in, set_up_into, offered_into, offer_code, offer_into, heard_into, heard_answer, hear_code, hear_into, hear_answer}
use Rattle.firmware.specs.Layout.{remembered, phase_of, out_of_range, station_of, numbers_of}

-- the layout
pub remembering : (k end : ℕ) → then_some {T = MiniSlot} (not (eqb k 0)) (record { 0 = end }) ≡ remembered k end
unfolding remembered
remembering k end = go (eqb k 0)
  where
    go : (b : Bool) → then_some {T = MiniSlot} (not b) (record { 0 = end }) ≡ cond b None (Some (record { 0 = end }))
    go true = refl
    go false = refl

pub is_idle : (p : Parts) → p.state ≡ 0 → Idle ≡ phase_of p
unfolding phase_of
is_idle p a = rw a refl

pub is_wanting : (p : Parts) → p.state ≡ 1 → Wanting p.size ≡ phase_of p
unfolding phase_of
is_wanting p a = rw a refl

pub is_deferring : (p : Parts) → p.state ≡ 2 → Deferring p.exponent p.left p.retries p.size ≡ phase_of p
unfolding phase_of
is_deferring p a = rw a refl

pub is_waiting : (p : Parts) → (p.state ≡ 0 → ⊥) → (p.state ≡ 1 → ⊥) → (p.state ≡ 2 → ⊥) → Waiting p.exponent p.retries (record { 0 = p.time }) p.size ≡ phase_of p
unfolding phase_of
is_waiting p a b c = simp (ne_eqb p.state 0 a, ne_eqb p.state 1 b, ne_eqb p.state 2 c)

pub ruleset layout_ways = (is_idle, is_wanting, is_deferring, is_waiting)

either : (a b : Bool) → (a || b) ≡ false → (a ≡ false) × (b ≡ false)
either true b e = (e, go b e)
  where
    go : (b : Bool) → true ≡ false → b ≡ false
    go true e = e
    go false e = refl
either false b e = (refl, e)

pub channel_fits : (ns : List ℕ) → out_of_range ns ≡ false → get_or ns 1 0 < 256
unfolding out_of_range
channel_fits ns e =
    let a = ltb-false 255 (get_or ns 1 0) (either (ltb 255 (get_or ns 1 0)) _ (either _ _ (either _ _ e).0).0).0 in
    omega (arith, a)

pub count_fits : (ns : List ℕ) → out_of_range ns ≡ false → get_or ns 2 0 < 256
unfolding out_of_range
count_fits ns e =
    let a = ltb-false 255 (get_or ns 2 0) (either (ltb 255 (get_or ns 1 0)) _ (either _ _ (either _ _ e).0).0).1 in
    omega (arith, a)

pub as_station : (ns : List ℕ) {end : Option MiniSlot} {phase : Phase} → end ≡ (station_of ns).end → phase ≡ (station_of ns).phase
    → ◌≡◌ {A = Station} (record { sid = get_or ns 0 0; channel = get_or ns 1 0; count = get_or ns 2 0; r = get_or ns 3 0; end = end; phase = phase }) (station_of ns)
as_station ns e f = λ i. record { sid = get_or ns 0 0; channel = get_or ns 1 0; count = get_or ns 2 0; r = get_or ns 3 0; end = e i; phase = f i }

-- numbers that are no record's, and those that are one's
pub no_station : (ns : List ℕ) → out_of_range ns ≡ true → Err Size ≡ station_in ns
unfolding station_in
no_station ns e = rw e refl

pub a_station : (ns : List ℕ) {st : Station} → out_of_range ns ≡ false → st ≡ station_of ns → Ok st ≡ station_in ns
unfolding station_in
a_station ns e s = rw (e, s) refl

-- an offer
module _ (st : Station) where
  taken_code : (a : Result Unit Refusal) → code_in (taken_by st a) ≡ code_in a
  taken_code (Ok u) = refl
  taken_code (Err why) = refl

  taken_into : (a : Result Unit Refusal) (ns : List ℕ) → set_up_into (taken_by st a) ns ≡ offered_into st a ns
  taken_into (Ok u) ns = refl
  taken_into (Err why) ns = refl

pub offer_said : (ns : List ℕ) (size : ℕ) → code_in (offered_to (station_in ns) size) ≡ offer_code ns size
unfolding offer_code station_in
offer_said ns size = go (out_of_range ns)
  where
    go : (b : Bool) → code_in (offered_to (cond b (Err Size) (Ok (station_of ns))) size) ≡ cond b (code_of (refusal Size 0)) (code_in (offer_of (station_of ns) size).answer)
    go true = refl
    go false = taken_code _ _

pub offer_put : (ns : List ℕ) (size : ℕ) → set_up_into (offered_to (station_in ns) size) ns ≡ offer_into ns size
unfolding offer_into station_in
offer_put ns size = go (out_of_range ns)
  where
    go : (b : Bool) → set_up_into (offered_to (cond b (Err Size) (Ok (station_of ns))) size) ns ≡ cond b ns (offered_into (offer_of (station_of ns) size).station (offer_of (station_of ns) size).answer ns)
    go true = refl
    go false = taken_into _ _ ns

-- a MAP heard
abbrev station_put : Result (Station × Answer) Refusal → List ℕ → List ℕ
station_put (Ok h) old = numbers_of h.0
station_put (Err why) old = old

abbrev answer_put : Result (Station × Answer) Refusal → List ℕ → List ℕ
answer_put (Ok h) old = heard_answer (Ok h.1) old
answer_put (Err why) old = old

module _ (st : Station) where
  heard_code : (a : Result Answer Refusal) → code_in (heard_by st a) ≡ code_in a
  heard_code (Ok a) = refl
  heard_code (Err why) = refl

  heard_station : (a : Result Answer Refusal) (ns : List ℕ) → station_put (heard_by st a) ns ≡ heard_into st a ns
  heard_station (Ok a) ns = refl
  heard_station (Err why) ns = refl

  heard_put : (a : Result Answer Refusal) (old : List ℕ) → answer_put (heard_by st a) old ≡ heard_answer a old
  heard_put (Ok a) old = refl
  heard_put (Err why) old = refl

module _ (ns bytes : List ℕ) (present draw : ℕ) (old : List ℕ) where
  hear_says : (code_in (heard_at (station_in ns) bytes present draw) ≡ hear_code ns bytes present draw)
      × ((station_put (heard_at (station_in ns) bytes present draw) ns ≡ hear_into ns bytes present draw) × (answer_put (heard_at (station_in ns) bytes present draw) old ≡ hear_answer ns bytes present draw old))
  unfolding hear_code hear_into hear_answer station_in
  hear_says = go (out_of_range ns)
    where
      go : (b : Bool) → let h = hear_of (station_of ns) bytes present draw in let r = heard_at (cond b (Err Size) (Ok (station_of ns))) bytes present draw in
          (code_in r ≡ cond b (code_of (refusal Size 0)) (code_in h.answer)) × ((station_put r ns ≡ cond b ns (heard_into h.station h.answer ns)) × (answer_put r old ≡ cond b old (heard_answer h.answer old)))
      go true = (refl, (refl, refl))
      go false = (heard_code _ _, (heard_station _ _ ns, heard_put _ _ old))

  module _ (r : Result (Station × Answer) Refusal) (is : r ≡ heard_at (station_in ns) bytes present draw) where
    says : (code_in r ≡ hear_code ns bytes present draw) × ((station_put r ns ≡ hear_into ns bytes present draw) × (answer_put r old ≡ hear_answer ns bytes present draw old))
    says = rw is hear_says

    pub hear_heard : (st : Station) (a : Answer) → r ≡ Ok (st, a) → (0 ≡ hear_code ns bytes present draw) × ((numbers_of st ≡ hear_into ns bytes present draw) × (heard_answer (Ok a) old ≡ hear_answer ns bytes present draw old))
    hear_heard st a e = rw e at says

    pub hear_refused : (why : Refusal) → r ≡ Err why → (code_of why ≡ hear_code ns bytes present draw) × ((ns ≡ hear_into ns bytes present draw) × (old ≡ hear_answer ns bytes present draw old))
    hear_refused why e = rw e at says
