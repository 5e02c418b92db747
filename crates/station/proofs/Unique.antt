-- Document 01, "What has to be promised": for each input a contract leaves one possible result.
use mathlib.Core.Path.{sym, ◌∙◌}
use Rattle.slots.proofs.Unique.{One}
use Rattle.station.proofs.record.record_fault.Reads as record-fault
use Rattle.station.proofs.record.Station.new.Reads as new
use Rattle.station.proofs.record.Station.offer.Reads as offer

pub record_fault_unique : One record-fault.Post
record_fault_unique κs a r r' s s' p q = p ∙ sym q

pub new_unique : One new.Post
new_unique κs a r r' s s' p q = p ∙ sym q

pub offer_unique : One offer.Post
offer_unique κs a r r' s s' p q = p ∙ sym q
