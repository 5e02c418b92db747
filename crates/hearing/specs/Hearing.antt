-- Document 01, "The station" and "Refusal numbers": hearing.
use Rattle.std.specs.Prelude.{ℕ, Bool, false, cond, not, List, ltb, eqb, length}
use Rattle.slots.specs.Time.{ahead, half, earlier}
use Rattle.rules.specs.declared.refusal.Reason.{Reason}
use Rattle.rules.specs.declared.refusal.Reason.TheVariants.{Channel, Description, Stale, Late}
use Rattle.rules.specs.Refusals.{refusal}
use Rattle.rules.specs.declared.refusal.Refusal.{Refusal}
use Rattle.rules.specs.declared.fields.Fields.{Fields}
use Rattle.message.specs.Lists.{is_empty}
use Rattle.message.specs.Map.{Map, grants_to, pendings_to, end_of}
use Rattle.message.specs.Reading.{read_of, map_of}
use Rattle.station.specs.declared.record.Phase.{Phase}
use Rattle.station.specs.declared.record.Station.{Station}
use Rattle.station.specs.Records.{record_fault}
use Rattle.backoff.specs.Steps.{acknowledged, deferred}
use Rattle.hearing.specs.declared.answer.Hearing.{Hearing}
use Rattle.hearing.specs.Opportunities.{contention, own}
use Rattle.hearing.specs.Steps.{granted, sending, sent_by}
use Rattle.std.specs.Prelude.{Option, Some, None, Result, Ok, Err}
use Rattle.slots.specs.declared.time.MiniSlot.{MiniSlot}
use Rattle.message.specs.declared.reading.Reading.{Reading}

-- how many bits of a time a station compares
abbrev pub width : Station → ℕ
width st = 32

-- 14: "MAP's start is not 0 to 2^31 - 1 ahead of the remembered end"; "not before a first accepted MAP"
unfoldable pub stale : ℕ → Option MiniSlot → ℕ → Bool
stale w None start = false
stale w (Some e) start = not (ltb (ahead w e.0 start) (half w))

-- "Hearing: message, 12, 13, 14, 15"
unfoldable pub hear_fault : Station → Fields → ℕ → Result Unit Reason
hear_fault st f present =
    cond (not (eqb f.channel st.channel)) (Err Channel)
    (cond (not (eqb f.count st.count)) (Err Description)
    (cond (stale (width st) st.end f.start.0) (Err Stale)
    (cond (not (earlier (width st) present f.start.0)) (Err Late) (Ok tt))))

-- a grant, and a pending, for the station's SID
abbrev pub has_grant : Station → Map → Bool
has_grant st m = not (is_empty (grants_to st.sid m.elements))

abbrev pub has_pending : Station → Map → Bool
has_pending st m = not (is_empty (pendings_to st.sid m.elements))

-- the phase before step 4, where there is no grant
unfoldable pub ready_phase : Station → Map → ℕ → Phase
ready_phase st m draw = deferred m.fields draw (acknowledged (width st) (has_pending st m) m.fields draw st.phase)

-- .. and after it
unfoldable pub quiet_phase : Station → Map → ℕ → Phase
quiet_phase st m draw = sending (own st.sid st.r m) (contention st.r m) (ready_phase st m draw)

unfoldable pub phase_after : Station → Map → ℕ → Phase
phase_after st m draw = cond (has_grant st m) (granted (has_pending st m) st.phase) (quiet_phase st m draw)

-- "the request sent, if any, by first mini-slot"
unfoldable pub request_in : Station → Map → ℕ → Option MiniSlot
request_in st m draw = cond (has_grant st m) None (sent_by (ready_phase st m draw) (quiet_phase st m draw))

-- "the number of data bursts"
abbrev pub bursts_in : Station → Map → ℕ
bursts_in st m = length (grants_to st.sid m.elements)

-- "The end of an accepted MAP is remembered."
unfoldable pub station_after : Station → Map → ℕ → Station
station_after st m draw = record {
  sid = st.sid;
  channel = st.channel;
  count = st.count;
  r = st.r;
  end = Some (record { 0 = end_of m });
  phase = phase_after st m draw;
}

-- a refusal "changes no record"
abbrev pub unheard : Station → Refusal → Hearing
unheard st why = record { station = st; answer = Err why }

-- refused by a check; or else it goes on
abbrev pub heard_unless : Station → Result Unit Reason → Hearing → Hearing
heard_unless st (Ok u) rest = rest
heard_unless st (Err why) rest = unheard st (refusal why 0)

-- the station and its answer, where nothing is refused
abbrev pub heard_in : Station → Map → ℕ → Hearing
heard_in st m draw = record { station = station_after st m draw; answer = Ok (record { bursts = bursts_in st m; request = request_in st m draw }) }

-- hearing a MAP that was read
unfoldable pub hearing : Station → Map → ℕ → ℕ → Hearing
hearing st m present draw = heard_unless st (hear_fault st m.fields present) (heard_in st m draw)

-- .. or not
abbrev pub hearing_of : Station → Result Reading Refusal → Map → ℕ → ℕ → Hearing
hearing_of st (Ok reading) m present draw = hearing st m present draw
hearing_of st (Err why) m present draw = unheard st why

-- "A station handed in is checked first (6, 17)"; then the message
unfoldable pub hear_of : Station → List ℕ → ℕ → ℕ → Hearing
hear_of st bytes present draw = heard_unless st (record_fault st) (hearing_of st (read_of bytes) (map_of bytes) present draw)
