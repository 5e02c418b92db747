-- A record laid out for C and taken apart again is the same record.
use mathlib.Core.Path.{◌≡◌, refl}
use Rattle.station.specs.declared.record.Station.{Station}
use Rattle.station.specs.declared.record.Phase.{Phase}
use Rattle.station.specs.declared.record.Phase.TheVariants.{Idle, Wanting, Deferring, Waiting}
use Rattle.slots.specs.declared.time.MiniSlot.{MiniSlot}
use Rattle.std.specs.Prelude.{Option, Some, None}
use Rattle.firmware.specs.Layout.{remembered, phase_of, parts_of, known, end_in, station_of, numbers_of}

end_trip : (e : Option MiniSlot) → remembered (known e) (end_in e) ≡ e
unfolding remembered
end_trip None = refl
end_trip (Some time) = refl

phase_trip : (p : Phase) → phase_of (parts_of p) ≡ p
unfolding phase_of
phase_trip Idle = refl
phase_trip (Wanting size) = refl
phase_trip (Deferring exponent left retries size) = refl
phase_trip (Waiting exponent retries time size) = refl

pub station_trip : (st : Station) → station_of (numbers_of st) ≡ st
station_trip st = λ i. record { sid = st.sid; channel = st.channel; count = st.count; r = st.r; end = end_trip st.end i; phase = phase_trip st.phase i }
