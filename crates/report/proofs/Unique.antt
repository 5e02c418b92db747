-- Document 01, "What has to be promised": for each input a contract leaves one possible result and one possible content of everything lent.
use mathlib.Core.Path.{◌≡◌, sym, ◌∙◌}
use contract.Lifetimes
use borrow.Fn.World
use borrow.Fn.Kinds as Kinds'
use denote.Triple.Clauses
use Rattle.slots.proofs.Unique.{One}
use Rattle.report.proofs.reporting.enough.Reads as enough
use Rattle.report.specs.contracts.reporting.report as report'
use Rattle.report.proofs.reporting.report.Reads as report
use Rattle.report.proofs.reporting.report.Kinds as report_kinds

pub enough_unique : One enough.Post
enough_unique κs a r r' s s' p q = p ∙ sym q

pub report_unique : (κs : Lifetimes.Lfts 2) (a : World.ArgsD report'.signature κs) (r r' : World.ResD report'.signature κs) (s s' : Clauses.AtExit (Kinds'.ended_of 2 report_kinds.ps report_kinds.r) κs) → report.Post κs a r s → report.Post κs a r' s' → (r ≡ r') × (s.1.0.now ≡ s'.1.0.now)
report_unique κs a r r' s s' p q = (p.0 ∙ sym q.0, p.1 ∙ sym q.1)
