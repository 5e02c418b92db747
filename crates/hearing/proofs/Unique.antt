-- Document 01, "What has to be promised": for each input a contract leaves one possible result.
use mathlib.Core.Path.{sym, ◌∙◌}
use Rattle.slots.proofs.Unique.{One}
use Rattle.hearing.proofs.hearing.hear.Reads as hear

pub hear_unique : One hear.Post
hear_unique κs a r r' s s' p q = p ∙ sym q
