-- Document 01, "What has to be promised": for each input a contract leaves one possible result.
use mathlib.Core.Path.{sym, ◌∙◌}
use Rattle.slots.proofs.Unique.{One}
use Rattle.rules.proofs.fields.Backoff.bad.Reads as bad
use Rattle.rules.proofs.fields.Fields.bad_backoffs.Reads as bad-backoffs
use Rattle.rules.proofs.refusal.Reason.number.Reads as number
use Rattle.rules.proofs.refusal.RefusalFromReason.from.Reads as from
use Rattle.rules.proofs.element.Element.grants_sid.Reads as grants-sid
use Rattle.rules.proofs.rules.unicast.Reads as unicast
use Rattle.rules.proofs.rules.within.Reads as within
use Rattle.rules.proofs.rules.granting.Reads as granting
use Rattle.rules.proofs.rules.sid_allowed.Reads as sid-allowed
use Rattle.rules.proofs.rules.standing_fault.Reads as standing-fault
use Rattle.rules.proofs.rules.fault.Reads as fault
use Rattle.rules.proofs.rules.nothing_yet.Reads as nothing_yet
use Rattle.rules.proofs.rules.advance.Reads as advance
use Rattle.rules.proofs.rules.ended.Reads as ended

pub bad_unique : One bad.Post
bad_unique κs a r r' s s' p q = p ∙ sym q

pub bad_backoffs_unique : One bad-backoffs.Post
bad_backoffs_unique κs a r r' s s' p q = p ∙ sym q

pub number_unique : One number.Post
number_unique κs a r r' s s' p q = p ∙ sym q

pub from_unique : One from.Post
from_unique κs a r r' s s' p q = p ∙ sym q

pub within_unique : One within.Post
within_unique κs a r r' s s' p q = p ∙ sym q

pub granting_unique : One granting.Post
granting_unique κs a r r' s s' p q = p ∙ sym q

pub sid_allowed_unique : One sid-allowed.Post
sid_allowed_unique κs a r r' s s' p q = p ∙ sym q

pub standing_fault_unique : One standing-fault.Post
standing_fault_unique κs a r r' s s' p q = p ∙ sym q

pub fault_unique : One fault.Post
fault_unique κs a r r' s s' p q = p ∙ sym q

pub nothing_yet_unique : One nothing_yet.Post
nothing_yet_unique κs a r r' s s' p q = p ∙ sym q

pub advance_unique : One advance.Post
advance_unique κs a r r' s s' p q = p ∙ sym q

pub ended_unique : One ended.Post
ended_unique κs a r r' s s' p q = p ∙ sym q

pub unicast_unique : One unicast.Post
unicast_unique κs a r r' s s' p q = p ∙ sym q

pub grants_sid_unique : One grants-sid.Post
grants_sid_unique κs a r r' s s' p q = p ∙ sym q
