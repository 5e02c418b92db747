-- How the code goes through a MAP: its intervals in one pass, a pending only where it counts. It serves private functions alone, no public
-- promise cites these definitions, and each is in the terms of those that the paper's words gave.
use Rattle.std.specs.Prelude.{ℕ, zero, suc, ◌+◌, ◌-◌, Bool, false, cond, ◌&&◌, List, [], ◌∷◌, map, ltb, eqb, length}
use Rattle.std.specs.declared.ops.ControlFlow.{ControlFlow}
use Rattle.std.specs.declared.ops.ControlFlow.TheVariants.{Break, Continue}
use Rattle.slots.specs.declared.time.MiniSlot.{MiniSlot}
use Rattle.slots.specs.Time.{moved_on}
use Rattle.rules.specs.Sids.{within}
use Rattle.message.specs.Lists.{keep, gather}
use Rattle.rules.specs.Rules.{granting}
use Rattle.message.specs.Map.{Map, Interval}
use Rattle.station.specs.declared.record.Phase.{Phase}
use Rattle.station.specs.declared.record.Phase.TheVariants.{Idle, Wanting, Deferring, Waiting}
use Rattle.station.specs.declared.record.Station.{Station}
use Rattle.hearing.specs.declared.opportunity.Found.{Found}
use Rattle.hearing.specs.declared.hearing.Taken.{Taken}
use Rattle.hearing.specs.Opportunities.{own_in}
use Rattle.rules.specs.Refusals.{unless}
use Rattle.station.specs.Records.{record_fault}
use Rattle.message.specs.declared.reading.Reading.{Reading}
use Rattle.message.specs.Reading.{read_of}
use Rattle.rules.specs.declared.refusal.Refusal.{Refusal}
use Rattle.hearing.specs.Hearing.{hear_fault, bursts_in, phase_after, request_in}
use Rattle.std.specs.Prelude.{Option, Some, None, Result, Ok, Err}
use Rattle.slots.specs.declared.time.MiniSlot.{MiniSlot}

-- the first of some times, unless there was one before them
unfoldable pub first_of : Option MiniSlot → List ℕ → Option MiniSlot
first_of (Some time) ts = Some time
first_of None [] = None
first_of None (t ∷ ts) = Some (record { 0 = t })

-- a grant, or a pending, to a SID
abbrev pub grants : ℕ → ℕ → ℕ → Bool
grants σ sid iuc = granting iuc && eqb sid σ

-- what was found for a station, with what some more intervals hold for it
unfoldable pub found_in : ℕ → ℕ → ℕ → Found → List Interval → Found
found_in start σ r found ks = record {
  bursts = found.bursts + length (keep (λ k. grants σ k.sid k.iuc) ks);
  own = first_of found.own (map (moved_on 32 start) (gather (own_in σ r) ks));
}

-- "Waiting with a pending"; "pendings in other states are ignored"
unfoldable pub waiting_with : Bool → Phase → Bool
waiting_with pending Idle = false
waiting_with pending (Wanting size) = false
waiting_with pending (Deferring exponent left retries size) = false
waiting_with pending (Waiting exponent retries time size) = pending

-- how far apart the contention opportunities of an interval lie; 0 where it gives none
unfoldable pub apart : ℕ → ℕ → ℕ → ℕ
apart r sid iuc =
    cond (eqb iuc 1 && eqb sid 0x3FFF) r
    (cond (eqb iuc 2 && within 0x3FF1 0x3FFE sid) (cond (ltb (sid - 0x3FF0) r) 0 (sid - 0x3FF0)) 0)

-- of opportunities passed in order: the one to send in, or how many are left to pass
unfoldable pub passed_by : List ℕ → ℕ → ControlFlow MiniSlot ℕ
passed_by [] left = Continue left
passed_by (t ∷ ts) zero = Break (record { 0 = t })
passed_by (t ∷ ts) (suc left) = passed_by ts left

-- .. unless there is an own Request
unfoldable pub sent_in : Option MiniSlot → List ℕ → ℕ → ControlFlow MiniSlot ℕ
sent_in (Some time) ts left = Break time
sent_in None ts left = passed_by ts left

-- what the four steps come to
abbrev pub taken_in : Station → Map → ℕ → Taken
taken_in st m draw = record { phase = phase_after st m draw; answer = record { bursts = bursts_in st m; request = request_in st m draw } }

-- what was read, where the station hears it
abbrev pub heard_by : Station → ℕ → Result Reading Refusal → Result Reading Refusal
heard_by st present (Ok reading) = unless (hear_fault st reading.fields present) 0 (Ok reading)
heard_by st present (Err why) = Err why

unfoldable pub hearable_in : Station → List ℕ → ℕ → Result Reading Refusal
hearable_in st s present = unless (record_fault st) 0 (heard_by st present (read_of s))
