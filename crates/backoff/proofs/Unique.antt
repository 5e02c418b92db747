-- Document 01, "What has to be promised": for each input a contract leaves one possible result.
use mathlib.Core.Path.{sym, ◌∙◌}
use Rattle.slots.proofs.Unique.{One}
use Rattle.backoff.proofs.steps.ready_phase.Reads as ready-phase

pub ready_phase_unique : One ready-phase.Post
ready_phase_unique κs a r r' s s' p q = p ∙ sym q
