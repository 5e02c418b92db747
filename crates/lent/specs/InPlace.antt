-- Document 01, "The station": "The station record is lent to the hearing step and changed where it stands".
use Rattle.std.specs.Prelude.{ℕ, ◌≡◌, List, Result}
use Rattle.station.specs.declared.record.Station.{Station}
use Rattle.rules.specs.declared.refusal.Refusal.{Refusal}
use Rattle.station.specs.Offering.{offer_of}
use Rattle.hearing.specs.declared.answer.Answer.{Answer}
use Rattle.hearing.specs.Hearing.{hear_of}

-- a MAP heard: the record before and after, and the answer
abbrev pub HearsInPlace : Station → List ℕ → ℕ → ℕ → Station → Result Answer Refusal → Type 0
HearsInPlace before bytes present draw after answer = (after ≡ (hear_of before bytes present draw).station) × (answer ≡ (hear_of before bytes present draw).answer)

-- a packet offered, likewise
abbrev pub OffersInPlace : Station → ℕ → Station → Result Unit Refusal → Type 0
OffersInPlace before size after answer = (after ≡ (offer_of before size).station) × (answer ≡ (offer_of before size).answer)
