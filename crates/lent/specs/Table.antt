-- Document 01: "a lent table of up to 32 station records hears one MAP, record by record, with a lent draw and a lent answer place for each".
use Rattle.std.specs.Prelude.{ℕ, ◌≡◌, cond, List, [], ◌∷◌, ltb, length, Result, Ok, Err}
use Rattle.rules.specs.declared.refusal.Reason.{Reason}
use Rattle.rules.specs.declared.refusal.Reason.TheVariants.{Size}
use Rattle.rules.specs.declared.refusal.Refusal.{Refusal}
use Rattle.rules.specs.Refusals.{number_of, changed}
use Rattle.station.specs.declared.record.Station.{Station}
use Rattle.hearing.specs.declared.answer.Answer.{Answer}
use Rattle.hearing.specs.declared.answer.Hearing.{Hearing}
use Rattle.hearing.specs.Hearing.{hear_of}
use Rattle.lent.specs.declared.table.Placed.{Placed}

-- 17: "a table over 32, or fewer draws or places than records"
unfoldable pub table_fault : ℕ → ℕ → ℕ → Result Unit Reason
table_fault records draws places =
    cond (ltb 32 records) (Err Size)
    (cond (ltb draws records) (Err Size)
    (cond (ltb places records) (Err Size) (Ok tt)))

-- "each record's place takes its refusal number alone, 0 if heard"
abbrev pub number_in : Result Answer Refusal → ℕ
number_in (Ok a) = 0
number_in (Err why) = number_of why.reason

abbrev pub placed : Hearing → Placed
placed h = record { station = h.station; number = number_in h.answer }

abbrev pub placed_of : Station → List ℕ → ℕ → ℕ → Placed
placed_of st bytes present draw = placed (hear_of st bytes present draw)

-- each record with its own draw; its place takes the number; "further places stay"
module _ (bytes : List ℕ) (present : ℕ) where
  abbrev pub records_after : List Station → List ℕ → List Station
  records_after [] draws = []
  records_after (st ∷ sts) [] = st ∷ sts
  records_after (st ∷ sts) (draw ∷ draws) = (placed_of st bytes present draw).station ∷ records_after sts draws

  abbrev pub places_after : List Station → List ℕ → List ℕ → List ℕ
  places_after [] draws places = places
  places_after (st ∷ sts) [] places = places
  places_after (st ∷ sts) (draw ∷ draws) [] = []
  places_after (st ∷ sts) (draw ∷ draws) (place ∷ places) = (placed_of st bytes present draw).number ∷ places_after sts draws places

-- "The table answers 17 for itself first, changing nothing"
module _ (bytes : List ℕ) (present : ℕ) (draws : List ℕ) (records : List Station) (places : List ℕ) where
  abbrev pub answer_of : Result Unit Reason
  answer_of = table_fault (length records) (length draws) (length places)

  abbrev pub table_of : List Station
  table_of = changed answer_of (records_after bytes present records draws) records

  abbrev pub places_of : List ℕ
  places_of = changed answer_of (places_after bytes present records draws places) places

  -- a table heard: its records and places after it, and its answer
  abbrev pub HearsTable : List Station → List ℕ → Result Unit Reason → Type 0
  HearsTable records' places' answer = (answer ≡ answer_of) × ((records' ≡ table_of) × (places' ≡ places_of))
