-- Document 01, "The station" and "Refusal numbers": set-up and offering.
use Rattle.std.specs.Prelude.{ℕ, Bool, true, false, cond, not, None, Result, Ok, Err}
use Rattle.rules.specs.Sids.{unicast}
use Rattle.rules.specs.declared.refusal.Reason.{Reason}
use Rattle.rules.specs.declared.refusal.Reason.TheVariants.{Sid, Busy, Size}
use Rattle.rules.specs.declared.refusal.Refusal.{Refusal}
use Rattle.rules.specs.Refusals.{refusal, then}
use Rattle.station.specs.declared.record.Phase.{Phase}
use Rattle.station.specs.declared.record.Phase.TheVariants.{Idle, Wanting, Deferring, Waiting}
use Rattle.station.specs.declared.record.Station.{Station}
use Rattle.station.specs.declared.record.Offering.{Offering}
use Rattle.station.specs.Records.{bad_size, bad_r, record_fault}

-- "Set-up takes SID, channel, UCD count and r"
abbrev pub fresh : ℕ → ℕ → ℕ → ℕ → Station
fresh sid channel count r = record { sid = sid; channel = channel; count = count; r = r; end = None; phase = Idle }

-- "Set-up of a station: 6, 17"
unfoldable pub set_up_of : ℕ → ℕ → ℕ → ℕ → Result Station Refusal
set_up_of sid channel count r =
    cond (not (unicast sid)) (Err (refusal Sid 0))
    (cond (bad_r r) (Err (refusal Size 0)) (Ok (fresh sid channel count r)))

unfoldable pub idle : Phase → Bool
idle Idle = true
idle (Wanting size) = false
idle (Deferring exponent left retries size) = false
idle (Waiting exponent retries time size) = false

-- the record's own refusal first; "Offer: 16, 17"
unfoldable pub offer_fault : Station → ℕ → Result Unit Reason
offer_fault st size =
    then (record_fault st)
    (cond (not (idle st.phase)) (Err Busy)
    (cond (bad_size size) (Err Size) (Ok tt)))

-- "An offer of a packet of 1 to 255 mini-slots turns Idle into Wanting"
abbrev pub wanting : Station → ℕ → Station
wanting st size = record { sid = st.sid; channel = st.channel; count = st.count; r = st.r; end = st.end; phase = Wanting size }

abbrev pub offer_by : Station → ℕ → Result Unit Reason → Offering
offer_by st size (Ok u) = record { station = wanting st size; answer = Ok tt }
offer_by st size (Err why) = record { station = st; answer = Err (refusal why 0) }

unfoldable pub offer_of : Station → ℕ → Offering
offer_of st size = offer_by st size (offer_fault st size)
