-- Numbers of the paper, and edges of its rules: one table, computed by the definitions that the promises cite.
use Rattle.rules.specs.Refusals.{number_of}
use mathlib.Core.Path.{◌≡◌, refl}
use mathlib.Core.Bool.{true}
use mathlib.Core.List.{List, [], ◌∷◌}
use Prim.Native.Nat.{ℕ, ◌-◌}
use Rattle.slots.specs.Time.{ahead, earlier}
use Rattle.rules.specs.declared.element.Element.{Element}
use Rattle.rules.proofs.Worked.{element}
use Rattle.message.specs.Map.{Map, intervals, after_null, map_length, grants_to, pendings_to}
use Rattle.station.specs.declared.record.Phase.{Phase}
use Rattle.station.specs.declared.record.Phase.TheVariants.{Idle, Deferring}
use Rattle.station.specs.declared.record.Station.{Station}
use Rattle.backoff.specs.Steps.{lost, acknowledged, deferred}
use Rattle.backoff.proofs.Worked.{phase, fields, waiting, Case, case, all}
use Rattle.hearing.specs.declared.answer.Hearing.{Hearing}
use Rattle.hearing.specs.Opportunities.{spaced, contention_in, own_in, contention, own}
use Rattle.hearing.specs.Steps.{granted, passing, offered_own, sending, waiting_since, sent_by}
use Rattle.hearing.specs.Hearing.{stale, hear_fault, ready_phase, quiet_phase, phase_after, request_in, station_after, hearing}
use Rattle.std.specs.Prelude.{Option, Some, None, Result, Ok, Err}
use Rattle.slots.specs.declared.time.MiniSlot.{MiniSlot}
use Rattle.rules.specs.declared.refusal.Refusal.{Refusal}
use Rattle.hearing.specs.declared.answer.Answer.{Answer}

-- an answer as numbers
abbrev request : Option MiniSlot → List ℕ
request None = []
request (Some time) = time.0 ∷ []

abbrev answer : Result Answer Refusal → List ℕ
answer (Ok a) = a.bursts ∷ request a.request
answer (Err why) = number_of why.reason ∷ why.element ∷ []

abbrev map_at : ℕ → ℕ → List Element → Map
map_at start ack es = record { fields = fields start ack; elements = es }

-- one broadcast interval
abbrev broadcast : ℕ → ℕ → Map
broadcast start length = map_at start 0 (element 0x3FFF 1 0 ∷ element 0 7 length ∷ [])

-- station 5 on that channel
abbrev station : ℕ → Phase → Station
station r p = record { sid = 5; channel = 1; count = 2; r = r; end = None; phase = p }

-- what station 5 is after a MAP, and what it answers; draw 7, one mini-slot before the start
abbrev hears : Station → Map → Hearing
hears st m = hearing st m (m.fields.start.0 - 1) 7

abbrev after : Station → Map → List ℕ
after st m = phase (hears st m).station.phase

abbrev says : Station → Map → List ℕ
says st m = answer (hears st m).answer

pub table : List Case
table =
    -- defer 11, r 1, intervals of 6, 2, 8: 5 left, 3 left, then the fourth of the eight
    case (after (station 1 (Deferring 4 11 0 20)) (broadcast 1000 6)) (2 ∷ 4 ∷ 5 ∷ 0 ∷ 20 ∷ [])
    ∷ case (after (station 1 (Deferring 4 5 0 20)) (broadcast 1006 2)) (2 ∷ 4 ∷ 3 ∷ 0 ∷ 20 ∷ [])
    ∷ case (after (station 1 (Deferring 4 3 0 20)) (broadcast 1008 8)) (3 ∷ 4 ∷ 0 ∷ 1011 ∷ 20 ∷ [])
    -- .. in one MAP
    ∷ case (says (station 1 (Deferring 4 11 0 20)) (map_at 1000 0 (element 0x3FFF 1 0 ∷ element 0x3FFF 1 6 ∷ element 0x3FFF 1 8 ∷ element 0 7 16 ∷ []))) (0 ∷ 1011 ∷ [])
    -- 0x3FF2, r 1, length 7: three, at 0, 2, 4
    ∷ case (contention_in 1 (record { sid = 0x3FF2; iuc = 2; first = 0; length = 7 })) (0 ∷ 2 ∷ 4 ∷ [])
    -- broadcast, r 4, length 3: none
    ∷ case (contention_in 4 (record { sid = 0x3FFF; iuc = 1; first = 0; length = 3 })) []
    -- request time 500: Ack 500 still waiting, Ack 501 lost
    ∷ case (after (station 4 (waiting 0 500)) (map_at 1000 500 (element 0x3FFF 1 0 ∷ element 0 7 3 ∷ []))) (3 ∷ 2 ∷ 0 ∷ 500 ∷ 20 ∷ [])
    ∷ case (after (station 4 (waiting 0 500)) (map_at 1000 501 (element 0x3FFF 1 0 ∷ element 0 7 3 ∷ []))) (2 ∷ 3 ∷ 7 ∷ 1 ∷ 20 ∷ [])
    -- the 17th loss drops the packet; the 16th does not
    ∷ case (after (station 4 (waiting 16 500)) (map_at 1000 501 (element 0x3FFF 1 0 ∷ element 0 7 3 ∷ []))) (0 ∷ [])
    ∷ case (after (station 4 (waiting 15 500)) (map_at 1000 501 (element 0x3FFF 1 0 ∷ element 0 7 3 ∷ []))) (2 ∷ 3 ∷ 7 ∷ 16 ∷ 20 ∷ [])
    -- a grant in Idle counts as a burst
    ∷ case (says (station 1 Idle) (map_at 1000 0 (element 5 5 0 ∷ element 0 7 20 ∷ []))) (1 ∷ [])
    -- Waiting with grant and pending stays; without the pending it is Idle
    ∷ case (after (station 1 (waiting 3 500)) (map_at 1000 501 (element 5 5 0 ∷ element 0 7 20 ∷ element 5 5 20 ∷ []))) (3 ∷ 2 ∷ 3 ∷ 500 ∷ 20 ∷ [])
    ∷ case (after (station 1 (waiting 3 500)) (map_at 1000 501 (element 5 5 0 ∷ element 0 7 20 ∷ []))) (0 ∷ [])
    -- an own Request of length r - 1 is passed over for a later usable one, whatever contention comes before
    ∷ case (says (station 4 (Deferring 2 0 0 20)) (map_at 1000 0 (element 0x3FFF 1 0 ∷ element 5 1 8 ∷ element 5 1 11 ∷ element 0 7 15 ∷ []))) (0 ∷ 1011 ∷ [])
    -- left equal to the number of opportunities keeps 0
    ∷ case (after (station 1 (Deferring 3 6 1 20)) (broadcast 1000 6)) (2 ∷ 3 ∷ 0 ∷ 1 ∷ 20 ∷ [])
    -- the same MAP twice is 14
    ∷ case (says (hears (station 1 Idle) (broadcast 1000 6)).station (broadcast 1000 6)) (14 ∷ 0 ∷ [])
    -- present = start is 15
    ∷ case (answer (hearing (station 1 Idle) (broadcast 1000 6) 1000 7).answer) (15 ∷ 0 ∷ [])
    ∷ []

pub worked : all table ≡ true
unfolding table ahead earlier intervals after_null map_length grants_to pendings_to spaced contention_in own_in contention own granted lost acknowledged deferred passing offered_own sending waiting_since sent_by stale hear_fault ready_phase quiet_phase phase_after request_in station_after hearing
worked = refl
