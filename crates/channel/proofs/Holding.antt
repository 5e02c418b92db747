-- The headend's table keeps its 64 places.
use mathlib.Core.Path.{◌≡◌, ◌∙◌}
use mathlib.Core.List.{List}
use Prim.Native.Nat.{ℕ, ◌-◌, ◌≤◌}
use native.Mathlib.Omega.{arith}
use lib.ListN.{length, replicate, length-set, length-append, length-replicate}
use Rattle.headend.specs.declared.record.Headend.{Headend}
use Rattle.headend.specs.declared.record.Request.{Request}
use Rattle.headend.specs.Requests.{spare}
use Rattle.headend.specs.Records.{with_places, joined}
use Rattle.issuing.specs.Issue.{places_of, pending_in, moved_to, issued_from}
use Rattle.issuing.proofs.Tables.{pending_few}

pub record Places (h : Headend) : Type 0 where
  pub requests : length h.requests ≡ 64

pub places_joined : (h : Headend) (q : Request) → Places h → Places (joined h q)
unfolding joined with_places
places_joined h q p = record { requests = length-set h.requests h.held q ∙ p.requests }

length_places : (qs : List Request) → length qs ≤ 64 → length (places_of qs) ≡ 64
length_places qs h = length-append qs (replicate (64 - length qs) spare) ∙ omega (arith, length-replicate (64 - length qs) spare)

pub places_issued : (h : Headend) (ack c budget : ℕ) → h.held ≤ 64 → Places (issued_from h ack c budget)
unfolding issued_from moved_to with_places
places_issued h ack c budget few = record { requests = length_places (pending_in h c budget) (pending_few h ack c budget few) }
