-- Document 01, "What has to be promised": for each input a contract leaves one possible result.
use mathlib.Core.Path.{◌≡◌, sym, ◌∙◌}
use contract.Lifetimes
use borrow.Fn.World
use borrow.Fn.Kinds as Kinds'
use denote.Triple.Clauses
use Rattle.slots.proofs.Unique.{One}
use Rattle.headend.specs.contracts.record.Headend.held_requests as held-requests'
use Rattle.headend.proofs.record.Headend.held_requests.Reads as held-requests
use Rattle.headend.proofs.record.Headend.held_requests.Kinds as held_requests_kinds
use Rattle.headend.proofs.record.Headend.new.Reads as new
use Rattle.headend.proofs.record.Headend.request.Reads as request
use Rattle.headend.proofs.record.with_places.Reads as with-places
use Rattle.headend.proofs.setup.record_fault.Reads as record-fault

pub new_unique : One new.Post
new_unique κs a r r' s s' p q = p ∙ sym q

pub request_unique : One request.Post
request_unique κs a r r' s s' p q = p ∙ sym q

pub with_places_unique : One with-places.Post
with_places_unique κs a r r' s s' p q = p ∙ sym q

pub record_fault_unique : One record-fault.Post
record_fault_unique κs a r r' s s' p q = p ∙ sym q

-- a slice is one by its content; that it lies in the lent record its lifetime says
pub held_requests_unique : (κs : Lifetimes.Lfts 1) (a : World.ArgsD held-requests'.signature κs) (r r' : World.ResD held-requests'.signature κs) (s s' : Clauses.AtExit (Kinds'.ended_of 1 held_requests_kinds.ps held_requests_kinds.r) κs) → held-requests.Post κs a r s → held-requests.Post κs a r' s' → r.now ≡ r'.now
held_requests_unique κs a r r' s s' p q = p.0 ∙ sym q.0
