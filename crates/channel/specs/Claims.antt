-- What is claimed of every history: demand 3. The mission's words stand over each part.
use Rattle.std.specs.Prelude.{◌≡◌, true, ℕ, ◌+◌, ◌%◌, ◌^◌, ◌<◌, Ok, length}
use mathlib.Core.List.{[], Memᴰ}
use Rattle.slots.specs.declared.time.MiniSlot.{MiniSlot}
use Rattle.slots.specs.Time.{ahead, half, earlier}
use Rattle.rules.specs.declared.fields.Backoff.{Backoff}
use Rattle.message.specs.Map.{Interval, intervals, time_at, end_of}
use Rattle.rules.specs.Rules.{granting}
use Rattle.station.specs.declared.record.Phase.TheVariants.{Waiting}
use Rattle.station.specs.declared.record.Station.{Station}
use Rattle.station.specs.Offering as offering
use Rattle.hearing.specs.Hearing.{hear_of}
use Rattle.headend.specs.declared.record.Headend.{Headend}
use Rattle.headend.specs.declared.record.Request.{Request}
use Rattle.headend.specs.Requests.{held_of}
use Rattle.headend.specs.Records as records
use Rattle.channel.specs.History.{Issue, bytes_of, map_in, Sending, State, station_at}
use Rattle.std.specs.Prelude.{Option}

-- "Take one headend .. freshly set up"; its next start is a 32-bit count
pub record FreshHeadend (h : Headend) (channel count : ℕ) : Type 0 where
  pub next : MiniSlot
  pub ranging : Backoff
  pub data_backoff : Backoff
  pub short : ℕ
  pub set_up : records.set_up_of next channel count ranging data_backoff short ≡ Ok h
  pub clock : next.0 < 2 ^ 32

-- "and stations freshly set up", "on one channel and description"
pub record FreshStation (st : Station) (channel count : ℕ) : Type 0 where
  pub sid : ℕ
  pub r : ℕ
  pub set_up : offering.set_up_of sid channel count r ≡ Ok st

-- "Take one headend and stations freshly set up with different SIDs, on one channel and description."
pub record Fresh (s : State) : Type 0 where
  pub channel : ℕ
  pub count : ℕ
  pub headend : FreshHeadend s.headend channel count
  pub stations : (i : ℕ) → i < length s.stations → FreshStation (station_at s i) channel count
  pub different : (i k : ℕ) → i < length s.stations → k < length s.stations → (station_at s i).sid ≡ (station_at s k).sid → i ≡ k
  pub none_issued : s.issues ≡ []
  pub none_flying : s.flying ≡ []
  pub none_sent : s.log ≡ []

-- "all times of the history fit in a span under 2^31 mini-slots": there is a time E of which every start and every end lies less than 2^31 ahead
pub record Within (s : State) (E : ℕ) : Type 0 where
  pub starts : (j : Issue) → Memᴰ j s.issues → ahead 32 E (map_in j).fields.start.0 < half 32
  pub ends : (j : Issue) → Memᴰ j s.issues → ahead 32 E (end_of (map_in j)) < half 32

-- (a) "in a mini-slot granted to one SID no other station ever sends"
abbrev pub GrantedAlone : State → Type 0
GrantedAlone s =
    -- a mini-slot a of a grant k of an issued MAP j
    (j : Issue) → Memᴰ j s.issues → (k : Interval) → Memᴰ k (intervals (map_in j).elements) → granting k.iuc ≡ true → (a : ℕ) → a < k.length →
    -- and a mini-slot b of a sending x, before or after
    (x : Sending) → Memᴰ x s.log → (b : ℕ) → b < x.size →
    -- are one only if the grant was the sender's
    time_at (map_in j) (k.first + a) ≡ (x.first + b) % 2 ^ 32 → k.sid ≡ x.sid

-- (b) "while the headend holds a request, the station that sent it is waiting on that very one": SID, size and first mini-slot
abbrev pub HeldWaits : State → Type 0
HeldWaits s = (q : Request) → Memᴰ q (held_of s.headend) →
    (i : ℕ) × (i < length s.stations) × ((station_at s i).sid ≡ q.sid) × ((exponent : ℕ) × (retries : ℕ) × ((station_at s i).phase ≡ Waiting exponent retries q.first q.size))

-- (c) "a station still waiting after a MAP it accepted, whose Ack Time is later than its request, had that request held by the headend when that MAP was issued"
abbrev pub WaitingHeld : State → Type 0
WaitingHeld s =
    -- station i accepts MAP j
    (i : ℕ) → i < length s.stations → (j : Issue) → Memᴰ j s.issues → (present draw bursts : ℕ) (request : Option MiniSlot) →
    (hear_of (station_at s i) (bytes_of j) present draw).answer ≡ Ok (record { bursts = bursts; request = request }) →
    -- and is then waiting, its request earlier than the Ack Time
    (exponent retries size : ℕ) (time : MiniSlot) → (hear_of (station_at s i) (bytes_of j) present draw).station.phase ≡ Waiting exponent retries time size →
    earlier 32 time.0 (map_in j).fields.ack.0 ≡ true →
    (q : Request) × Memᴰ q (held_of j.before) × (q.sid ≡ (station_at s i).sid) × (q.size ≡ size) × (q.first ≡ time)

pub record Safe (s : State) : Type 0 where
  pub granted_alone : GrantedAlone s
  pub held_waits : HeldWaits s
  pub waiting_held : WaitingHeld s
