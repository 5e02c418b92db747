-- What a MAP says that was issued, once its bytes are read: the plan.
use mathlib.Core.Path.{◌≡◌, sym, ◌∙◌, ap}
use mathlib.Core.Bool.{true}
use mathlib.Core.List.{List, [], ◌∷◌, ◌++◌}
use Prim.Native.Nat.{ℕ, ◌+◌, ◌-◌, ◌≤◌, ◌<◌}
use native.Mathlib.Omega.{arith}
use borrow.Author.Tests.{ltb-false}
use Rattle.slots.specs.Time.{ahead, moved_on}
use Rattle.message.specs.Lists.{is_empty, gather}
use Rattle.rules.specs.Rules.{granting}
use Rattle.message.specs.Map.{Map, Interval, intervals, map_length, grants_to, pendings_to}
use Rattle.headend.specs.declared.record.Headend.{Headend}
use Rattle.headend.specs.declared.record.Request.{Request}
use Rattle.headend.specs.Requests.{held_of}
use Rattle.headend.proofs.Checks.{handed_on}
use Rattle.issuing.specs.Plan.{total}
use Rattle.issuing.specs.Issue.{granted_in, pending_in, plan_of, call_fault, issue_fault, issued_from}
use Rattle.issuing.proofs.Held.{granted_pending}
use Rattle.issuing.proofs.Issues.{Called, called}
use Rattle.issuing.proofs.Planned.{of_sid, grant_intervals, plan_intervals, plan_grants, plan_pendings, plan_gathered}
use Rattle.issuing.proofs.Selfcheck.{plan_bounds, map_length_lem, map_plan, plan_fits}
use Rattle.issuing.proofs.Tables.{next_issued}
use Rattle.channel.specs.History.{Issue, map_in}
use Rattle.std.specs.Prelude.{Ok}

-- what a MAP grants, and what it leaves pending
abbrev pub granted_by : Issue → List Request
granted_by j = granted_in j.before j.c j.budget

abbrev pub pending_by : Issue → List Request
pending_by j = pending_in j.before j.c j.budget

-- together, what was held when it was issued
pub held_split : (j : Issue) → granted_by j ++ pending_by j ≡ held_of j.before
held_split j = granted_pending (j.budget - j.c) (held_of j.before)

-- the part in which requests are asked for
abbrev pub asking : ℕ → Interval
asking c = record { sid = 0x3FFF; iuc = 1; first = 0; length = c }

pub record Contents (j : Issue) : Type 0 where
  pub start : (map_in j).fields.start.0 ≡ j.before.next.0
  pub ack : (map_in j).fields.ack.0 ≡ j.ack
  pub length : map_length (map_in j).elements ≡ j.c + total (granted_by j)
  pub parts : intervals (map_in j).elements ≡ asking j.c ∷ grant_intervals j.before.short j.c (granted_by j)
  pub grants : (σ : ℕ) → is_empty (grants_to σ (map_in j).elements) ≡ is_empty (of_sid σ (granted_by j))
  pub pendings : (σ : ℕ) → is_empty (pendings_to σ (map_in j).elements) ≡ is_empty (of_sid σ (pending_by j))
  pub gathered : (f : Interval → List ℕ) → ((k : Interval) → granting k.iuc ≡ true → f k ≡ []) → gather f (intervals (map_in j).elements) ≡ f (asking j.c)

-- rule 22, passed
pub ack_between : (h : Headend) (ack c budget room : ℕ) → Called h ack c budget room → ahead 32 h.ack.0 ack ≤ ahead 32 h.ack.0 h.next.0
ack_between h ack c budget room p = ltb-false (ahead 32 h.ack.0 h.next.0) (ahead 32 h.ack.0 ack) p.acks

pub issue_called : (h : Headend) (ack c budget room : ℕ) → issue_fault h ack c budget room ≡ Ok tt → Called h ack c budget room
unfolding issue_fault
issue_called h ack c budget room e = called h ack c budget room (handed_on (call_fault h ack c budget room) _ e).0

module _ (j : Issue) (room : ℕ) (p : Called j.before j.ack j.c j.budget room) (next : j.before.next.0 < 4294967296) (ack : j.ack < 4294967296) where
  read : map_in j ≡ plan_of j.before j.ack j.c j.budget
  read = map_plan j.before j.ack j.c j.budget p.known p.plans (plan_fits j.before j.ack j.c j.budget next ack)

  pub length_read : map_length (map_in j).elements ≡ j.c + total (granted_by j)
  length_read = ap (λ (m : Map). map_length m.elements) read ∙ map_length_lem j.before j.ack j.c j.budget p.known p.plans

  pub length_fits : map_length (map_in j).elements ≤ 4096
  length_fits = let b = plan_bounds j.before j.ack j.c j.budget p.known p.plans in omega (arith, length_read)

  pub contents : Contents j
  unfolding plan_of
  contents = record {
    start = ap (λ (m : Map). m.fields.start.0) read;
    ack = ap (λ (m : Map). m.fields.ack.0) read;
    length = length_read;
    parts = ap (λ (m : Map). intervals m.elements) read ∙ plan_intervals j.before.short j.c (granted_by j) (pending_by j);
    grants = λ σ. ap (λ (m : Map). is_empty (grants_to σ m.elements)) read ∙ plan_grants σ j.before.short j.c (granted_by j) (pending_by j);
    pendings = λ σ. ap (λ (m : Map). is_empty (pendings_to σ m.elements)) read ∙ plan_pendings σ j.before.short j.c (granted_by j) (pending_by j);
    gathered = λ f none. ap (λ (m : Map). gather f (intervals m.elements)) read ∙ plan_gathered f none j.before.short j.c (granted_by j) (pending_by j);
  }

  -- "The next start moves on by the map length."
  pub next_is : (issued_from j.before j.ack j.c j.budget).next.0 ≡ moved_on 32 j.before.next.0 (map_length (map_in j).elements)
  next_is = next_issued j.before j.ack j.c j.budget ∙ ap (λ (m : Map). moved_on 32 j.before.next.0 (map_length m.elements)) (sym read)
