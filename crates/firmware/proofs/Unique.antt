-- Document 01, "What has to be promised": for each input a contract leaves one possible result and one possible content of everything lent.
use mathlib.Core.Path.{◌≡◌, sym, ◌∙◌}
use contract.Lifetimes
use borrow.Fn.World
use borrow.Fn.Kinds as Kinds'
use denote.Triple.Clauses
use Rattle.firmware.specs.contracts.calls.wickbadger_read as read'
use Rattle.firmware.proofs.calls.wickbadger_read.Reads as read
use Rattle.firmware.proofs.calls.wickbadger_read.Kinds as read_kinds
use Rattle.firmware.specs.contracts.calls.wickbadger_grant as grant'
use Rattle.firmware.proofs.calls.wickbadger_grant.Reads as grant
use Rattle.firmware.proofs.calls.wickbadger_grant.Kinds as grant_kinds
use Rattle.firmware.specs.contracts.calls.wickbadger_set_up as set-up'
use Rattle.firmware.proofs.calls.wickbadger_set_up.Reads as set_up
use Rattle.firmware.proofs.calls.wickbadger_set_up.Kinds as set_up_kinds
use Rattle.firmware.specs.contracts.calls.wickbadger_offer as offer'
use Rattle.firmware.proofs.calls.wickbadger_offer.Reads as offer
use Rattle.firmware.proofs.calls.wickbadger_offer.Kinds as offer_kinds
use Rattle.firmware.specs.contracts.calls.wickbadger_hear as hear'
use Rattle.firmware.proofs.calls.wickbadger_hear.Reads as hear
use Rattle.firmware.proofs.calls.wickbadger_hear.Kinds as hear_kinds

pub read_unique : (κs : Lifetimes.Lfts 2) (a : World.ArgsD read'.signature κs) (r r' : World.ResD read'.signature κs) (s s' : Clauses.AtExit (Kinds'.ended_of 2 read_kinds.ps read_kinds.r) κs) →
    read.Post κs a r s → read.Post κs a r' s' → (r ≡ r') × (s.1.0.now ≡ s'.1.0.now)
read_unique κs a r r' s s' p q = (p.0 ∙ sym q.0, p.1 ∙ sym q.1)

pub grant_unique : (κs : Lifetimes.Lfts 2) (a : World.ArgsD grant'.signature κs) (r r' : World.ResD grant'.signature κs) (s s' : Clauses.AtExit (Kinds'.ended_of 2 grant_kinds.ps grant_kinds.r) κs) →
    grant.Post κs a r s → grant.Post κs a r' s' → (r ≡ r') × (s.1.1.1.0.now ≡ s'.1.1.1.0.now)
grant_unique κs a r r' s s' p q = (p.0 ∙ sym q.0, p.1 ∙ sym q.1)

pub set_up_unique : (κs : Lifetimes.Lfts 1) (a : World.ArgsD set-up'.signature κs) (r r' : World.ResD set-up'.signature κs) (s s' : Clauses.AtExit (Kinds'.ended_of 1 set_up_kinds.ps set_up_kinds.r) κs) →
    set_up.Post κs a r s → set_up.Post κs a r' s' → (r ≡ r') × (s.1.1.1.1.0.now ≡ s'.1.1.1.1.0.now)
set_up_unique κs a r r' s s' p q = (p.0 ∙ sym q.0, p.1 ∙ sym q.1)

pub offer_unique : (κs : Lifetimes.Lfts 1) (a : World.ArgsD offer'.signature κs) (r r' : World.ResD offer'.signature κs) (s s' : Clauses.AtExit (Kinds'.ended_of 1 offer_kinds.ps offer_kinds.r) κs) →
    offer.Post κs a r s → offer.Post κs a r' s' → (r ≡ r') × (s.0.now ≡ s'.0.now)
offer_unique κs a r r' s s' p q = (p.0 ∙ sym q.0, p.1 ∙ sym q.1)

pub hear_unique : (κs : Lifetimes.Lfts 3) (a : World.ArgsD hear'.signature κs) (r r' : World.ResD hear'.signature κs) (s s' : Clauses.AtExit (Kinds'.ended_of 3 hear_kinds.ps hear_kinds.r) κs) →
    hear.Post κs a r s → hear.Post κs a r' s' → (r ≡ r') × ((s.0.now ≡ s'.0.now) × (s.1.1.1.1.0.now ≡ s'.1.1.1.1.0.now))
hear_unique κs a r r' s s' p q = (p.0 ∙ sym q.0, (p.1.0 ∙ sym q.1.0, p.1.1 ∙ sym q.1.1))
