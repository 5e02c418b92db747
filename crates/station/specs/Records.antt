-- Document 01, "The station": the record, and what is refused in it.
use Rattle.std.specs.Prelude.{ℕ, Bool, false, cond, not, ◌||◌, ltb, Result, Ok, Err}
use Rattle.rules.specs.Sids.{within, unicast}
use Rattle.rules.specs.declared.refusal.Reason.{Reason}
use Rattle.rules.specs.declared.refusal.Reason.TheVariants.{Sid, Size}
use Rattle.station.specs.declared.record.Phase.{Phase}
use Rattle.station.specs.declared.record.Phase.TheVariants.{Idle, Wanting, Deferring, Waiting}
use Rattle.station.specs.declared.record.Station.{Station}

-- 17: "packet or request not 1..255"
abbrev pub bad_size : ℕ → Bool
bad_size size = not (within 1 255 size)

-- 17: "r not 1..16"
abbrev pub bad_r : ℕ → Bool
bad_r r = not (within 1 16 r)

-- 17, of the fields that its state has: "an exponent over 15, retries over 16, opportunities left over 32,767"
unfoldable pub bad_phase : Phase → Bool
bad_phase Idle = false
bad_phase (Wanting size) = bad_size size
bad_phase (Deferring exponent left retries size) = bad_size size || ltb 15 exponent || ltb 16 retries || ltb 32767 left
bad_phase (Waiting exponent retries time size) = bad_size size || ltb 15 exponent || ltb 16 retries

-- "A station handed in is checked first (6, 17)"
unfoldable pub record_fault : Station → Result Unit Reason
record_fault st =
    cond (not (unicast st.sid)) (Err Sid)
    (cond (bad_r st.r) (Err Size)
    (cond (bad_phase st.phase) (Err Size) (Ok tt)))
