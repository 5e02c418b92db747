-- Document 01, "What has to be promised": for each input a contract leaves one possible result and one possible content of everything lent.
use mathlib.Core.Path.{◌≡◌, sym, ◌∙◌}
use contract.Lifetimes
use borrow.Fn.World
use borrow.Fn.Kinds as Kinds'
use denote.Triple.Clauses
use Rattle.issuing.specs.contracts.issuing.issue as issue'
use Rattle.issuing.proofs.issuing.issue.Reads as issue
use Rattle.issuing.proofs.issuing.issue.Kinds as issue_kinds

-- the answer, the record and the lent bytes
pub issue_unique : (κs : Lifetimes.Lfts 1) (a : World.ArgsD issue'.signature κs) (r r' : World.ResD issue'.signature κs) (s s' : Clauses.AtExit (Kinds'.ended_of 1 issue_kinds.ps issue_kinds.r) κs) → issue.Post κs a r s → issue.Post κs a r' s' → (r ≡ r') × (s.1.1.1.1.0.now ≡ s'.1.1.1.1.0.now)
issue_unique κs a r r' s s' p q = (p.0 ∙ sym q.0, p.1 ∙ sym q.1)
