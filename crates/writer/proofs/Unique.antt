-- Document 01, "What has to be promised": for each input a contract leaves one possible result and one possible content of everything lent.
use mathlib.Core.Path.{◌≡◌, sym, ◌∙◌}
use contract.Lifetimes
use borrow.Fn.World
use borrow.Fn.Kinds as Kinds'
use denote.Triple.Clauses
use Rattle.writer.specs.contracts.writing.lay_out as lay-out'
use Rattle.writer.proofs.writing.lay_out.Reads as lay-out
use Rattle.writer.proofs.writing.lay_out.Kinds as lay_out_kinds
use Rattle.writer.specs.contracts.writing.write as write'
use Rattle.writer.proofs.writing.write.Reads as write
use Rattle.writer.proofs.writing.write.Kinds as write_kinds

-- lent bytes: what they hold at exit is one
pub lay_out_unique : (κs : Lifetimes.Lfts 2) (a : World.ArgsD lay-out'.signature κs) (r r' : World.ResD lay-out'.signature κs) (s s' : Clauses.AtExit (Kinds'.ended_of 2 lay_out_kinds.ps lay_out_kinds.r) κs) → lay-out.Post κs a r s → lay-out.Post κs a r' s' → s.1.1.0.now ≡ s'.1.1.0.now
lay_out_unique κs a r r' s s' p q = p ∙ sym q

pub write_unique : (κs : Lifetimes.Lfts 2) (a : World.ArgsD write'.signature κs) (r r' : World.ResD write'.signature κs) (s s' : Clauses.AtExit (Kinds'.ended_of 2 write_kinds.ps write_kinds.r) κs) → write.Post κs a r s → write.Post κs a r' s' → (r ≡ r') × (s.1.1.0.now ≡ s'.1.1.0.now)
write_unique κs a r r' s s' p q = (p.0 ∙ sym q.0, p.1 ∙ sym q.1)
