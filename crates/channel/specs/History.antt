-- Histories: one headend, some stations, and what is under way between them. Every rule is the one that the contracts cite: `hear_of`, `offer_of`, `request_of`, `issue_of`.
use Rattle.std.specs.Prelude.{cond, List, [], ◌∷◌, ◌++◌, map, ℕ, zero, suc, ◌+◌, ◌%◌, ◌^◌, ltb, length, get_or, set}
use Rattle.message.specs.Map.{Map, map_length, grants_to, time_at}
use Rattle.message.specs.Reading.{map_of}
use Rattle.station.specs.declared.record.Phase.{Phase}
use Rattle.station.specs.declared.record.Phase.TheVariants.{Idle, Wanting, Deferring, Waiting}
use Rattle.station.specs.declared.record.Station.{Station}
use Rattle.station.specs.Offering.{offer_of}
use Rattle.hearing.specs.declared.answer.Hearing.{Hearing}
use Rattle.hearing.specs.Hearing.{hear_of}
use Rattle.headend.specs.declared.record.Headend.{Headend}
use Rattle.headend.specs.declared.record.Request.{Request}
use Rattle.headend.specs.Records.{request_of}
use Rattle.issuing.specs.declared.issuing.Issuing.{Issuing}
use Rattle.issuing.specs.Issue.{plan_message, issue_of}
use Rattle.std.specs.Prelude.{Option, Some, None, Result, Ok, Err}
use Rattle.slots.specs.declared.time.MiniSlot.{MiniSlot}
use Rattle.rules.specs.declared.refusal.Refusal.{Refusal}
use Rattle.hearing.specs.declared.answer.Answer.{Answer}

module _ {A : Type 0} where
  -- a list without the one at place k
  abbrev pub pluck : ℕ → List A → List A
  pluck k [] = []
  pluck zero (x ∷ xs) = xs
  pluck (suc k) (x ∷ xs) = x ∷ pluck k xs

  -- a list from place k on
  abbrev pub from : ℕ → List A → List A
  from zero xs = xs
  from (suc k) [] = []
  from (suc k) (x ∷ xs) = from k xs

-- a MAP that was issued: by whom, holding what, and with which arguments
pub record Issue : Type 0 where
  pub before : Headend
  pub ack : ℕ
  pub c : ℕ
  pub budget : ℕ

-- its bytes, and the MAP that reading them gives
abbrev pub bytes_of : Issue → List ℕ
bytes_of j = plan_message j.before j.ack j.c j.budget

abbrev pub map_in : Issue → Map
map_in j = map_of (bytes_of j)

-- a sending: who, from which mini-slot, and for how many
pub record Sending : Type 0 where
  pub sid : ℕ
  pub first : ℕ
  pub size : ℕ

-- the MAPs issued, newest first; the requests sent and neither delivered nor lost; the log of all sendings
pub record State : Type 0 where
  pub headend : Headend
  pub stations : List Station
  pub issues : List Issue
  pub flying : List Request
  pub log : List Sending

-- a MAP is lost by no Hear, late or repeated or out of order by any Hear; a request is late by a late Deliver
pub data Event : Type 0 where
  -- station i is offered a packet of a size
  Offer : ℕ → ℕ → Event
  -- the headend issues a MAP: Ack Time, c, budget and room, which may be too little
  Issue' : ℕ → ℕ → ℕ → ℕ → Event
  -- station i hears the j-th newest MAP: present, draw
  Hear : ℕ → ℕ → ℕ → ℕ → Event
  -- the k-th request in flight reaches the headend
  Deliver : ℕ → Event
  -- .. or is lost
  Lose : ℕ → Event

abbrev pub nobody : Station
nobody = record { sid = 0; channel = 0; count = 0; r = 0; end = None; phase = Idle }

abbrev pub nothing : Request
nothing = record { sid = 0; size = 0; first = record { 0 = 0 } }

abbrev pub station_at : State → ℕ → Station
station_at s i = get_or s.stations i nobody

-- the size that a phase carries
abbrev pub size_in : Phase → ℕ
size_in Idle = 0
size_in (Wanting size) = size
size_in (Deferring exponent left retries size) = size
size_in (Waiting exponent retries time size) = size

-- the request that was sent in a hearing: the answer's mini-slot, with the SID and the packet's size of the station that sent it
abbrev pub request_by : Station → Option MiniSlot → List Request
request_by st None = []
request_by st (Some t) = record { sid = st.sid; size = size_in st.phase; first = t } ∷ []

-- "every mini-slot of a data burst", "all r mini-slots of a request"
abbrev pub bursts_by : Station → Map → List Sending
bursts_by st m = map (λ k. record { sid = st.sid; first = time_at m k.first; size = k.length }) (grants_to st.sid m.elements)

abbrev pub sendings_by : Station → List Request → List Sending
sendings_by st qs = map (λ q. record { sid = st.sid; first = q.first.0; size = st.r }) qs

-- what a hearing sent, as requests and as sendings; a refused one sent nothing
abbrev pub requests_in : Station → Result Answer Refusal → List Request
requests_in st (Ok a) = request_by st a.request
requests_in st (Err why) = []

abbrev pub sendings_in : Station → Result Answer Refusal → Map → List Sending
sendings_in st (Ok a) m = sendings_by st (request_by st a.request) ++ bursts_by st m
sendings_in st (Err why) m = []

abbrev pub heard_by : State → ℕ → Hearing → Map → State
heard_by s i h m = record {
  headend = s.headend;
  stations = set s.stations i h.station;
  issues = s.issues;
  flying = requests_in h.station h.answer ++ s.flying;
  log = sendings_in h.station h.answer m ++ s.log;
}

-- the newest of some MAPs is heard, if there is one
abbrev pub heard_at : State → ℕ → List Issue → ℕ → ℕ → State
heard_at s i [] present draw = s
heard_at s i (j ∷ js) present draw = heard_by s i (hear_of (station_at s i) (bytes_of j) present draw) (map_in j)

-- a MAP joins those issued, if it was
abbrev pub issues_after : Result ℕ Refusal → Issue → List Issue → List Issue
issues_after (Ok size) j js = j ∷ js
issues_after (Err why) j js = js

-- what the headend is asked for now; a mini-slot time is a 32-bit count
abbrev pub asked : State → ℕ → ℕ → ℕ → Issue
asked s ack c budget = record { before = s.headend; ack = ack % 2 ^ 32; c = c; budget = budget }

abbrev pub issuing : Issue → ℕ → Issuing
issuing j room = issue_of j.before j.ack j.c j.budget room

abbrev pub issued_by : State → Issue → ℕ → State
issued_by s j room = record {
  headend = (issuing j room).headend;
  stations = s.stations;
  issues = issues_after (issuing j room).answer j s.issues;
  flying = s.flying;
  log = s.log;
}

-- the k-th request in flight is so no more
abbrev pub landed : State → ℕ → Headend → State
landed s k h = record {
  headend = h;
  stations = s.stations;
  issues = s.issues;
  flying = pluck k s.flying;
  log = s.log;
}

unfoldable pub step : State → Event → State
step s (Offer i size) = record {
  headend = s.headend;
  stations = set s.stations i (offer_of (station_at s i) size).station;
  issues = s.issues;
  flying = s.flying;
  log = s.log;
}
step s (Issue' ack c budget room) = issued_by s (asked s ack c budget) room
step s (Hear i j present draw) = cond (ltb i (length s.stations)) (heard_at s i (from j s.issues) present draw) s
step s (Deliver k) = landed s k (request_of s.headend (get_or s.flying k nothing)).headend
step s (Lose k) = landed s k s.headend

unfoldable pub after : List Event → State → State
after [] s = s
after (e ∷ es) s = after es (step s e)

-- the sum of the lengths of all MAPs issued
unfoldable pub spent : List Issue → ℕ
spent [] = 0
spent (j ∷ js) = map_length (map_in j).elements + spent js
