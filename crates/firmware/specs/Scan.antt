-- What the functions between a call's answer and its numbers give, for those private ones alone: no public promise cites these.
use Rattle.std.specs.Prelude.{ℕ, cond, List, [], ◌∷◌, Option, Some, None, Result, Ok, Err}
use Rattle.rules.specs.declared.refusal.Reason.{Reason}
use Rattle.rules.specs.declared.refusal.Reason.TheVariants.{Size}
use Rattle.rules.specs.declared.refusal.Refusal.{Refusal}
use Rattle.rules.specs.Refusals.{refusal}
use Rattle.message.specs.declared.grants.Granted.{Granted}
use Rattle.station.specs.declared.record.Station.{Station}
use Rattle.station.specs.Offering.{offer_of}
use Rattle.hearing.specs.declared.answer.Answer.{Answer}
use Rattle.hearing.specs.Hearing.{hear_of}
use Rattle.firmware.specs.Layout.{out_of_range, station_of}

-- a place after a call: the answer's numbers, or what it held
abbrev pub put_in : Result (List ℕ) Refusal → List ℕ → List ℕ
put_in (Ok numbers) old = numbers
put_in (Err why) old = old

abbrev pub grant_numbers : Option Granted → List ℕ
grant_numbers (Some granted) = 1 ∷ granted.first.0 ∷ granted.length ∷ []
grant_numbers None = 0 ∷ 0 ∷ 0 ∷ []

-- the station that stands in the numbers, if one does
unfoldable pub station_in : List ℕ → Result Station Reason
station_in ns = cond (out_of_range ns) (Err Size) (Ok (station_of ns))

-- .. after an offer that it takes
abbrev pub taken_by : Station → Result Unit Refusal → Result Station Refusal
taken_by st (Ok u) = Ok st
taken_by st (Err why) = Err why

abbrev pub offered_to : Result Station Reason → ℕ → Result Station Refusal
offered_to (Ok st) size = taken_by (offer_of st size).station (offer_of st size).answer
offered_to (Err reason) size = Err (refusal reason 0)

-- .. and after a MAP that it hears
abbrev pub heard_by : Station → Result Answer Refusal → Result (Station × Answer) Refusal
heard_by st (Ok answer) = Ok (st, answer)
heard_by st (Err why) = Err why

abbrev pub heard_at : Result Station Reason → List ℕ → ℕ → ℕ → Result (Station × Answer) Refusal
heard_at (Ok st) bytes present draw = heard_by (hear_of st bytes present draw).station (hear_of st bytes present draw).answer
heard_at (Err reason) bytes present draw = Err (refusal reason 0)
