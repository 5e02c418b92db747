-- What each call from C answers, and what the numbers lent to it hold at exit. "A refusal returns number and element alone and changes no record and no lent byte".
use Rattle.std.specs.Prelude.{ℕ, cond, List, [], ◌∷◌, Option, Some, None, Result, Ok, Err}
use Rattle.slots.specs.declared.time.MiniSlot.{MiniSlot}
use Rattle.rules.specs.declared.refusal.Reason.TheVariants.{Size}
use Rattle.rules.specs.declared.refusal.Refusal.{Refusal}
use Rattle.rules.specs.Refusals.{refusal}
use Rattle.message.specs.declared.reading.Reading.{Reading}
use Rattle.message.specs.declared.grants.Granted.{Granted}
use Rattle.station.specs.declared.record.Offering.{Offering}
use Rattle.station.specs.declared.record.Station.{Station}
use Rattle.station.specs.Offering.{offer_of}
use Rattle.hearing.specs.declared.answer.Answer.{Answer}
use Rattle.hearing.specs.declared.answer.Hearing.{Hearing}
use Rattle.hearing.specs.Hearing.{hear_of}
use Rattle.firmware.specs.Codes.{code_of}
use Rattle.firmware.specs.Layout.{known, end_in, out_of_range, station_of, numbers_of}

-- 0, or the refusal
abbrev pub code_in : {A : Type 0} → Result A Refusal → ℕ
code_in (Ok a) = 0
code_in (Err why) = code_of why

-- reading: the fields, n, where the Null stands and the map length
abbrev pub field_numbers : Reading → List ℕ
field_numbers m =
    m.fields.channel ∷ m.fields.count ∷ m.n ∷ m.fields.start.0 ∷ m.fields.ack.0
    ∷ m.fields.ranging.start ∷ m.fields.ranging.end ∷ m.fields.«data».start ∷ m.fields.«data».end
    ∷ m.null ∷ m.length ∷ []

abbrev pub read_into : Result Reading Refusal → List ℕ → List ℕ
read_into (Ok reading) old = field_numbers reading
read_into (Err why) old = old

-- the k-th grant: whether there is one (0 or 1), its first mini-slot and its length
abbrev pub grant_into : Result (Option Granted) Refusal → List ℕ → List ℕ
grant_into (Ok (Some granted)) old = 1 ∷ granted.first.0 ∷ granted.length ∷ []
grant_into (Ok None) old = 0 ∷ 0 ∷ 0 ∷ []
grant_into (Err why) old = old

-- set-up
abbrev pub set_up_into : Result Station Refusal → List ℕ → List ℕ
set_up_into (Ok st) old = numbers_of st
set_up_into (Err why) old = old

-- an offer: numbers that are no record's are 17
abbrev pub offered_into : Station → Result Unit Refusal → List ℕ → List ℕ
offered_into st (Ok u) old = numbers_of st
offered_into st (Err why) old = old

module _ (ns : List ℕ) (size : ℕ) where
  abbrev offering : Offering
  offering = offer_of (station_of ns) size

  unfoldable pub offer_code : ℕ
  offer_code = cond (out_of_range ns) (code_of (refusal Size 0)) (code_in offering.answer)

  unfoldable pub offer_into : List ℕ
  offer_into = cond (out_of_range ns) ns (offered_into offering.station offering.answer ns)

-- hearing: the data bursts, whether a request is sent (0 or 1), and its first mini-slot
abbrev pub sent_flag : Option MiniSlot → ℕ
sent_flag request = known request

abbrev pub sent_time : Option MiniSlot → ℕ
sent_time request = end_in request

abbrev pub heard_into : Station → Result Answer Refusal → List ℕ → List ℕ
heard_into st (Ok answer) old = numbers_of st
heard_into st (Err why) old = old

abbrev pub heard_answer : Result Answer Refusal → List ℕ → List ℕ
heard_answer (Ok answer) old = answer.bursts ∷ sent_flag answer.request ∷ sent_time answer.request ∷ []
heard_answer (Err why) old = old

module _ (ns bytes : List ℕ) (present draw : ℕ) where
  abbrev hearing : Hearing
  hearing = hear_of (station_of ns) bytes present draw

  unfoldable pub hear_code : ℕ
  hear_code = cond (out_of_range ns) (code_of (refusal Size 0)) (code_in hearing.answer)

  unfoldable pub hear_into : List ℕ
  hear_into = cond (out_of_range ns) ns (heard_into hearing.station hearing.answer ns)

  unfoldable pub hear_answer : List ℕ → List ℕ
  hear_answer old = cond (out_of_range ns) old (heard_answer hearing.answer old)
