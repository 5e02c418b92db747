-- Document 01, "The headend" and "Refusal numbers": set-up, the record handed in, and requests.
use Rattle.std.specs.Prelude.{ℕ, ◌+◌, Bool, cond, not, ◌||◌, List, Result, Ok, Err, leb, ltb, eqb, set, replicate}
use Rattle.std.specs.List.{list_any}
use Rattle.slots.specs.declared.time.MiniSlot.{MiniSlot}
use Rattle.slots.specs.Time.{earlier}
use Rattle.rules.specs.declared.fields.Backoff.{Backoff}
use Rattle.rules.specs.Backoffs.{bad_backoff}
use Rattle.rules.specs.Sids.{within, unicast}
use Rattle.rules.specs.declared.refusal.Refusal.{Refusal}
use Rattle.rules.specs.declared.refusal.Reason.{Reason}
use Rattle.rules.specs.declared.refusal.Reason.TheVariants as reason
use Rattle.rules.specs.declared.refusal.Reason.TheVariants.{Sid, Size, Passed, Unannounced, Held, Full}
use Rattle.rules.specs.Refusals.{refusal, then}
use Rattle.headend.specs.declared.record.Request.{Request}
use Rattle.headend.specs.declared.record.Headend.{Headend}
use Rattle.headend.specs.declared.record.Taking.{Taking}
use Rattle.headend.specs.Requests.{spare, held_of}

-- "Set up with a next start (also its first Ack Time), channel, UCD count, backoffs and a short-grant limit"
abbrev pub fresh : MiniSlot → ℕ → ℕ → Backoff → Backoff → ℕ → Headend
fresh next channel count ranging data_backoff short = record {
  next = next;
  ack = next;
  channel = channel;
  count = count;
  ranging = ranging;
  «data» = data_backoff;
  short = short;
  held = 0;
  requests = replicate 64 spare;
}

-- other times and other requests held; the set-up stays
unfoldable pub with_places : Headend → MiniSlot → MiniSlot → ℕ → List Request → Headend
with_places h next ack held requests = record {
  next = next;
  ack = ack;
  channel = h.channel;
  count = h.count;
  ranging = h.ranging;
  «data» = h.«data»;
  short = h.short;
  held = held;
  requests = requests;
}

-- "of a headend: 4"
unfoldable pub set_up_of : MiniSlot → ℕ → ℕ → Backoff → Backoff → ℕ → Result Headend Refusal
set_up_of next channel count ranging data_backoff short =
    cond (bad_backoff ranging || bad_backoff data_backoff) (Err (refusal reason.Backoff 0))
    (Ok (fresh next channel count ranging data_backoff short))

-- 17: "packet or request not 1..255"
abbrev pub bad_size : ℕ → Bool
bad_size size = not (within 1 255 size)

-- "a headend too (4, 6, 17)", 17 also for "over 64 held"
unfoldable pub record_fault : Headend → Result Unit Reason
record_fault h =
    cond (bad_backoff h.ranging || bad_backoff h.«data») (Err reason.Backoff)
    (cond (list_any (λ q. not (unicast q.sid)) (held_of h)) (Err Sid)
    (cond (ltb 64 h.held) (Err Size)
    (cond (list_any (λ q. bad_size q.size) (held_of h)) (Err Size) (Ok tt))))

-- the record's own; then "Request: 6, 17, 20, 21, 18, 19"
unfoldable pub request_fault : Headend → Request → Result Unit Reason
request_fault h q =
    then (record_fault h)
    (cond (not (unicast q.sid)) (Err Sid)
    (cond (bad_size q.size) (Err Size)
    (cond (earlier 32 q.first.0 h.ack.0) (Err Passed)
    (cond (not (earlier 32 q.first.0 h.next.0)) (Err Unannounced)
    (cond (list_any (λ p. eqb p.sid q.sid) (held_of h)) (Err Held)
    (cond (leb 64 h.held) (Err Full) (Ok tt)))))))

-- "a request that isn't refused joins them, last"
unfoldable pub joined : Headend → Request → Headend
joined h q = with_places h h.next h.ack (h.held + 1) (set h.requests h.held q)

abbrev pub request_by : Headend → Request → Result Unit Reason → Taking
request_by h q (Ok u) = record { headend = joined h q; answer = Ok tt }
request_by h q (Err why) = record { headend = h; answer = Err (refusal why 0) }

unfoldable pub request_of : Headend → Request → Taking
request_of h q = request_by h q (request_fault h q)
