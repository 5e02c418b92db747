-- The table of requests held, after an issue.
use mathlib.Core.Path.{◌≡◌, refl, sym, ◌∙◌}
use mathlib.Core.List.{List, ◌++◌}
use Prim.Native.Nat.{ℕ, ◌-◌, ◌≤◌}
use native.Mathlib.Omega.{arith}
use native.Mathlib.Nat.{min-eq_left}
use lib.ListN.{length, get_or, length-append}
use lib.Seq.{take_at}
use Rattle.headend.proofs.Scans.{take_listed}
use Rattle.slots.specs.Time.{moved_on}
use Rattle.message.specs.Lists.{listed}
use Rattle.message.specs.Map.{map_length}
use Rattle.headend.specs.declared.record.Headend.{Headend}
use Rattle.headend.specs.declared.record.Request.{Request}
use Rattle.headend.specs.Requests.{spare, held_of}
use Rattle.headend.specs.Records.{with_places}
use Rattle.headend.proofs.Tables.{length_held}
use Rattle.issuing.specs.Issue.{granted_in, pending_in, plan_of, moved_to, issued_from}
use Rattle.issuing.proofs.Held.{granted_pending, length_granted}

-- requests in their places are those requests
numbered : (qs rest : List Request) → listed (λ i. get_or (qs ++ rest) i spare) 0 (length qs) ≡ qs
numbered qs rest = sym (take_listed (qs ++ rest) spare (length qs) (omega (arith, length-append qs rest))) ∙ take_at qs rest (length qs) refl

module _ (h : Headend) (ack c budget : ℕ) where
  -- held before is what is granted and what is pending; held after is what is pending
  pub held_before : held_of h ≡ granted_in h c budget ++ pending_in h c budget
  held_before = sym (granted_pending (budget - c) (held_of h))

  pub pending_few : h.held ≤ 64 → length (pending_in h c budget) ≤ 64
  pending_few few = omega (arith, length_granted (budget - c) (held_of h), length_held h few)

  pub held_issued : h.held ≤ 64 → held_of (issued_from h ack c budget) ≡ pending_in h c budget
  unfolding held_of issued_from moved_to with_places
  held_issued few = rw (min-eq_left (pending_few few)) (numbered (pending_in h c budget) _)

  -- the next start moves on by the map length
  pub next_issued : (issued_from h ack c budget).next.0 ≡ moved_on 32 h.next.0 (map_length (plan_of h ack c budget).elements)
  unfolding issued_from moved_to with_places
  next_issued = refl
