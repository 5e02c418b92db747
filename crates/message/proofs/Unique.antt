-- Document 01, "What has to be promised": for each input a contract leaves one possible result and one possible content of everything lent.
use mathlib.Core.Path.{◌≡◌, sym, ◌∙◌}
use contract.Lifetimes
use borrow.Fn.World
use borrow.Fn.Kinds as Kinds'
use denote.Triple.Clauses
use Rattle.slots.proofs.Unique.{One}
use Rattle.message.specs.After.{start_after, after_null_at}
use Rattle.message.proofs.Parting.{one_place}
use Rattle.message.proofs.reading.read.Reads as read
use Rattle.message.proofs.element.element_at.Reads as element-at
use Rattle.message.proofs.grants.grant.Reads as grant
use Rattle.message.specs.contracts.after.after_null as after-null'
use Rattle.message.proofs.after.after_null.Reads as after_null_lem
use Rattle.message.proofs.after.after_null.Kinds as after_null_kinds
use Rattle.message.specs.contracts.reading.Reading.after_null as part'
use Rattle.message.proofs.reading.Reading.after_null.Reads as part
use Rattle.message.proofs.reading.Reading.after_null.Kinds as part_kinds

pub read_unique : One read.Post
read_unique κs a r r' s s' p q = p ∙ sym q

pub element_at_unique : One element-at.Post
element_at_unique κs a r r' s s' p q = p ∙ sym q

pub grant_unique : One grant.Post
grant_unique κs a r r' s s' p q = p ∙ sym q

-- a part of the caller's bytes: its content is one, and so is its place
pub after_null_unique : (κs : Lifetimes.Lfts 1) (a : World.ArgsD after-null'.signature κs) (r r' : World.ResD after-null'.signature κs) (s s' : Clauses.AtExit (Kinds'.ended_of 1 after_null_kinds.ps after_null_kinds.r) κs) → after_null_lem.Post κs a r s → after_null_lem.Post κs a r' s' → (r.now ≡ r'.now) × (r.ref_ptr ≡ r'.ref_ptr)
after_null_unique κs a r r' s s' p q = (p.0 ∙ sym q.0, one_place (after_null_at a.0.now) a.0.ref_ptr r.ref_ptr r'.ref_ptr p.1 q.1)

pub part_unique : (κs : Lifetimes.Lfts 1) (a : World.ArgsD part'.signature κs) (r r' : World.ResD part'.signature κs) (s s' : Clauses.AtExit (Kinds'.ended_of 1 part_kinds.ps part_kinds.r) κs) → part.Post κs a r s → part.Post κs a r' s' → (r.now ≡ r'.now) × (r.ref_ptr ≡ r'.ref_ptr)
part_unique κs a r r' s s' p q = (p.0 ∙ sym q.0, one_place (start_after a.0.null a.1.0.now) a.1.0.ref_ptr r.ref_ptr r'.ref_ptr p.1 q.1)
