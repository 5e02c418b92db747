-- Every refusal that a call can give comes to C whole: its number is 1 to 17 and its element at most 240, so that 0 is no refusal's code and the two bytes are the number and the element.
use mathlib.Core.Path.{◌≡◌, refl}
use mathlib.Core.Bool.{Bool, true, false, cond, not, ◌||◌}
use mathlib.Core.List.{List, [], ◌∷◌}
use Prim.Native.Nat.{ℕ, ◌+◌, ◌*◌, ◌≤◌, ◌%◌, ◌/◌}
use native.Mathlib.Omega.{arith}
use lib.Dec.{ltb, eqb}
use lib.ListN.{length}
use Rattle.std.specs.Prelude.{Result, Ok, Err}
use Rattle.rules.specs.Refusals.{number_of, unless, then}
use Rattle.rules.specs.declared.refusal.Reason.{Reason}
use Rattle.rules.specs.declared.refusal.Reason.TheVariants.{Short, Count, Length, Backoff, Use, Null, Sid, Place, Span, Grant, Room, Channel, Description, Stale, Late, Busy, Size, Passed, Unannounced, Held, Full, Ack, Plan, Selfcheck}
use Rattle.rules.specs.declared.refusal.Refusal.{Refusal}
use Rattle.rules.specs.declared.element.Element.{Element}
use Rattle.rules.specs.declared.fields.Fields.{Fields}
use Rattle.rules.specs.declared.rules.Progress.{Progress}
use Rattle.rules.specs.declared.rules.Whole.{Whole}
use Rattle.message.specs.declared.reading.Reading.{Reading}
use Rattle.slots.specs.Time.{earlier}
use Rattle.rules.specs.Sids.{unicast}
use Rattle.rules.specs.Backoffs.{bad_backoffs}
use Rattle.message.specs.Fields.{fields_of, count_of}
use Rattle.rules.specs.Rules.{unknown_use, misordered, wrong_sid, misplaced, too_far, grant_too_long, fault_of, nothing_yet, advanced, ended_at, walked}
use Rattle.message.specs.Map.{Map}
use Rattle.message.specs.Reading.{header_fault, map_of, reading_of, read_of}
use Rattle.message.specs.Grants.{grant_by, grant_of}
use Rattle.message.specs.Element.{element_in}
use Rattle.message.proofs.Lists.{length_listed}
use Rattle.message.proofs.Ways.{header_sound}
use Rattle.station.specs.declared.record.Station.{Station}
use Rattle.station.specs.Records.{bad_size, bad_r, bad_phase, record_fault}
use Rattle.station.specs.Offering.{idle, offer_fault, offer_by, offer_of, set_up_of}
use Rattle.hearing.specs.declared.answer.Hearing.{Hearing}
use Rattle.hearing.specs.Hearing.{width, stale, hear_fault, heard_unless, hearing, hearing_of, hear_of}
use Rattle.firmware.specs.Codes.{code_of}

abbrev pub Told : Refusal → Type 0
Told why = (1 ≤ number_of why.reason) × ((number_of why.reason ≤ 17) × (why.element ≤ 240))

pub told_code : (why : Refusal) → Told why → 1 ≤ code_of why
told_code why t = omega (arith, t.0, t.1.0, t.1.1)

pub told_number : (why : Refusal) → Told why → code_of why % 256 ≡ number_of why.reason
told_number why t = omega (arith, t.0, t.1.0, t.1.1)

pub told_element : (why : Refusal) → Told why → code_of why / 256 ≡ why.element
told_element why t = omega (arith, t.0, t.1.0, t.1.1)

-- one of two, each of which holds P
either : {X : Type 0} (P : X → Type 0) (b : Bool) {x y : X} → P x → P y → P (cond b x y)
either P true p q = p
either P false p q = q

-- an answer that is none, or such a refusal
abbrev pub ToldIn : {A : Type 0} → Result A Refusal → Type 0
ToldIn (Ok a) = Unit {0}
ToldIn (Err why) = Told why

abbrev Most : Result Unit Reason → Type 0
Most (Ok u) = Unit {0}
Most (Err reason) = number_of reason ≤ 17

some : (reason : Reason) → 1 ≤ number_of reason
some Short = omega arith
some Count = omega arith
some Length = omega arith
some Backoff = omega arith
some Use = omega arith
some Null = omega arith
some Sid = omega arith
some Place = omega arith
some Span = omega arith
some Grant = omega arith
some Room = omega arith
some Channel = omega arith
some Description = omega arith
some Stale = omega arith
some Late = omega arith
some Busy = omega arith
some Size = omega arith
some Passed = omega arith
some Unannounced = omega arith
some Held = omega arith
some Full = omega arith
some Ack = omega arith
some Plan = omega arith
some Selfcheck = omega arith

-- a check, and what follows where it holds
checked : {A : Type 0} (f : Result Unit Reason) (i : ℕ) (r : Result A Refusal) → Most f → i ≤ 240 → (f ≡ Ok tt → ToldIn r) → ToldIn (unless f i r)
checked (Ok u) i r m l q = q refl
checked (Err reason) i r m l q = (some reason, (m, l))

-- reading
fault_most : (p : Progress) (e : Element) → Most (fault_of p e)
unfolding fault_of
fault_most p e = either Most (unknown_use e) (omega arith) (either Most (misordered p e) (omega arith) (either Most (wrong_sid e) (omega arith) (either Most (misplaced p e) (omega arith) (either Most (too_far p e) (omega arith) (either Most (grant_too_long p e) (omega arith) tt)))))

walked_told : (i : ℕ) (p : Progress) (es : List Element) → i + length es ≤ 240 → ToldIn (walked i p es)
unfolding walked ended_at
walked_told i p [] l = either ToldIn p.closed tt (omega arith, (omega arith, omega (arith, l)))
walked_told i p (e ∷ es) l = checked (fault_of p e) i _ (fault_most p e) (omega (arith, l)) (λ _. walked_told (i + 1) (advanced p e i) es (omega (arith, l)))

header_most : (s : List ℕ) → Most (header_fault s)
unfolding header_fault
header_most s = either Most (ltb (length s) 16) (omega arith) (either Most (eqb (count_of s) 0 || ltb 240 (count_of s)) (omega arith) (either Most (not (eqb (length s) (16 + 4 * count_of s))) (omega arith) (either Most (bad_backoffs (fields_of s)) (omega arith) tt)))

reading_told : (f : Fields) (n : ℕ) (r : Result Whole Refusal) → ToldIn r → ToldIn (reading_of f n r)
reading_told f n (Ok w) t = tt
reading_told f n (Err why) t = t

pub read_told : (s : List ℕ) → ToldIn (read_of s)
unfolding read_of
read_told s =
    checked (header_fault s) 0 _ (header_most s) (omega arith)
    (λ e. reading_told _ _ _ (walked_told 0 nothing_yet (map_of s).elements (omega (arith, length_listed (element_in s) 0 (count_of s), (header_sound s e).few))))

-- the k-th grant
by_told : (r : Result Reading Refusal) (m : Map) (sid k : ℕ) → ToldIn r → ToldIn (grant_by r m sid k)
by_told (Ok reading) m sid k t = tt
by_told (Err why) m sid k t = t

pub grant_told : (s : List ℕ) (sid k : ℕ) → ToldIn (grant_of s sid k)
unfolding grant_of
grant_told s sid k = by_told (read_of s) (map_of s) sid k (read_told s)

-- set-up, and an offer
pub set_up_told : (sid channel count r : ℕ) → ToldIn (set_up_of sid channel count r)
unfolding set_up_of
set_up_told sid channel count r = either ToldIn (not (unicast sid)) (omega arith, (omega arith, omega arith)) (either ToldIn (bad_r r) (omega arith, (omega arith, omega arith)) tt)

record_most : (st : Station) → Most (record_fault st)
unfolding record_fault
record_most st = either Most (not (unicast st.sid)) (omega arith) (either Most (bad_r st.r) (omega arith) (either Most (bad_phase st.phase) (omega arith) tt))

-- .. or else a second
then_most : (f g : Result Unit Reason) → Most f → Most g → Most (then f g)
then_most (Ok u) g p q = q
then_most (Err reason) g p q = p

offer_most : (st : Station) (size : ℕ) → Most (offer_fault st size)
unfolding offer_fault
offer_most st size = then_most (record_fault st) _ (record_most st) (either Most (not (idle st.phase)) (omega arith) (either Most (bad_size size) (omega arith) tt))

offering_told : (st : Station) (size : ℕ) (f : Result Unit Reason) → Most f → ToldIn (offer_by st size f).answer
offering_told st size (Ok u) m = tt
offering_told st size (Err reason) m = (some reason, (m, omega arith))

pub offer_told : (st : Station) (size : ℕ) → ToldIn (offer_of st size).answer
unfolding offer_of
offer_told st size = offering_told st size (offer_fault st size) (offer_most st size)

-- hearing
abbrev ToldH : Hearing → Type 0
ToldH h = ToldIn h.answer

unless_told : (st : Station) (f : Result Unit Reason) (h : Hearing) → Most f → ToldH h → ToldH (heard_unless st f h)
unless_told st (Ok u) h m t = t
unless_told st (Err reason) h m t = (some reason, (m, omega arith))

hear_most : (st : Station) (m : Map) (present : ℕ) → Most (hear_fault st m.fields present)
unfolding hear_fault
hear_most st m present = either Most (not (eqb m.fields.channel st.channel)) (omega arith) (either Most (not (eqb m.fields.count st.count)) (omega arith) (either Most (stale (width st) st.end m.fields.start.0) (omega arith) (either Most (not (earlier (width st) present m.fields.start.0)) (omega arith) tt)))

map_told : (st : Station) (m : Map) (present draw : ℕ) → ToldH (hearing st m present draw)
unfolding hearing
map_told st m present draw = unless_told st (hear_fault st m.fields present) _ (hear_most st m present) tt

hearing_told : (st : Station) (r : Result Reading Refusal) (m : Map) (present draw : ℕ) → ToldIn r → ToldH (hearing_of st r m present draw)
hearing_told st (Ok reading) m present draw t = map_told st m present draw
hearing_told st (Err why) m present draw t = t

pub hear_told : (st : Station) (bytes : List ℕ) (present draw : ℕ) → ToldIn (hear_of st bytes present draw).answer
unfolding hear_of
hear_told st bytes present draw = unless_told st (record_fault st) _ (record_most st) (hearing_told st (read_of bytes) (map_of bytes) present draw (read_told bytes))
