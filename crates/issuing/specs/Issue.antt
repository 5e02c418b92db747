-- Document 01, "The headend" and "Refusal numbers": issuing.
use Rattle.std.specs.Prelude.{ℕ, ◌+◌, ◌-◌, ◌*◌, Bool, true, false, cond, ◌||◌, List, ◌++◌, ltb, eqb, length, replicate, Result, Ok, Err}
use Rattle.slots.specs.Time.{ahead, moved_on}
use Rattle.rules.specs.declared.fields.Fields.{Fields}
use Rattle.rules.specs.declared.refusal.Reason.{Reason}
use Rattle.rules.specs.declared.refusal.Reason.TheVariants.{Room, Ack, Plan, Selfcheck}
use Rattle.rules.specs.declared.refusal.Refusal.{Refusal}
use Rattle.rules.specs.Refusals.{refusal, changed, then}
use Rattle.message.specs.declared.reading.Reading.{Reading}
use Rattle.message.specs.Map.{Map, map_length}
use Rattle.message.specs.Reading.{read_of}
use Rattle.writer.specs.Writing.{message_of, onto}
use Rattle.headend.specs.declared.record.Headend.{Headend}
use Rattle.headend.specs.declared.record.Request.{Request}
use Rattle.headend.specs.Requests.{spare, held_of}
use Rattle.headend.specs.Records.{with_places, record_fault}
use Rattle.issuing.specs.declared.issuing.Issuing.{Issuing}
use Rattle.issuing.specs.Plan.{granted, pending, elements_of}

-- what is granted and what is left pending: the budget includes c
abbrev pub granted_in : Headend → ℕ → ℕ → List Request
granted_in h c budget = granted (budget - c) (held_of h)

abbrev pub pending_in : Headend → ℕ → ℕ → List Request
pending_in h c budget = pending (budget - c) (held_of h)

-- "The MAP starts at the next start", and carries the new Ack Time
abbrev pub plan_fields : Headend → ℕ → Fields
plan_fields h ack = record {
  channel = h.channel;
  count = h.count;
  start = h.next;
  ack = record { 0 = ack };
  ranging = h.ranging;
  «data» = h.«data»;
}

unfoldable pub plan_of : Headend → ℕ → ℕ → ℕ → Map
plan_of h ack c budget = record {
  fields = plan_fields h ack;
  elements = elements_of h.short c (granted_in h c budget) (pending_in h c budget);
}

-- its bytes, by the writer's own definition
abbrev pub plan_message : Headend → ℕ → ℕ → ℕ → List ℕ
plan_message h ack c budget = let m = plan_of h ack c budget in message_of m.fields m.elements

-- 22: "new - old exceeds next start - old, both mod 2^32"
abbrev pub bad_ack : Headend → ℕ → Bool
bad_ack h ack = ltb (ahead 32 h.ack.0 h.next.0) (ahead 32 h.ack.0 ack)

-- 23: "c is 0, budget over 4,096, or c over budget"
abbrev pub bad_plan : ℕ → ℕ → Bool
bad_plan c budget = eqb c 0 || ltb 4096 budget || ltb budget c

-- 24: "the headend's reader refuses its own MAP"
abbrev pub refuses : Result Reading Refusal → Bool
refuses (Ok reading) = false
refuses (Err why) = true

-- the record's own; then of "Issue: 22, 23, 11, 24" those before the MAP is made. 11: "lent bytes too few", for a MAP of held + 2 elements
unfoldable pub call_fault : Headend → ℕ → ℕ → ℕ → ℕ → Result Unit Reason
call_fault h ack c budget room =
    then (record_fault h)
    (cond (bad_ack h ack) (Err Ack)
    (cond (bad_plan c budget) (Err Plan)
    (cond (ltb room (24 + 4 * h.held)) (Err Room) (Ok tt))))

-- .. and 24 last
unfoldable pub issue_fault : Headend → ℕ → ℕ → ℕ → ℕ → Result Unit Reason
issue_fault h ack c budget room =
    then (call_fault h ack c budget room)
    (cond (refuses (read_of (plan_message h ack c budget))) (Err Selfcheck) (Ok tt))

-- 64 places that hold these requests, the others spare
abbrev pub places_of : List Request → List Request
places_of qs = qs ++ replicate (64 - length qs) spare

-- "Granted requests leave the table and their room is used again. The next start moves on by the map length." The Ack Time is "from then on the headend's"
unfoldable pub moved_to : Headend → ℕ → ℕ → List Request → Headend
moved_to h ack len rest =
    with_places h (record { 0 = moved_on 32 h.next.0 len }) (record { 0 = ack }) (length rest) (places_of rest)

unfoldable pub issued_from : Headend → ℕ → ℕ → ℕ → Headend
issued_from h ack c budget = moved_to h ack (map_length (plan_of h ack c budget).elements) (pending_in h c budget)

-- "answers its byte count"; a refusal "changes no record"
abbrev pub issue_by : Headend → ℕ → ℕ → ℕ → Result Unit Reason → Issuing
issue_by h ack c budget (Ok u) = record { headend = issued_from h ack c budget; answer = Ok (24 + 4 * h.held) }
issue_by h ack c budget (Err why) = record { headend = h; answer = Err (refusal why 0) }

unfoldable pub issue_of : Headend → ℕ → ℕ → ℕ → ℕ → Issuing
issue_of h ack c budget room = issue_by h ack c budget (issue_fault h ack c budget room)

-- what the lent bytes hold then: the MAP in "only its own" bytes, or what they held
unfoldable pub issue_into : Headend → ℕ → ℕ → ℕ → List ℕ → List ℕ
issue_into h ack c budget old = changed (issue_fault h ack c budget (length old)) (onto (plan_message h ack c budget) old) old
