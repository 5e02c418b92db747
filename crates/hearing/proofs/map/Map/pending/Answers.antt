use mathlib.Core.Path.{refl, ◌∙◌}
use Prim.Native.Nat.{◌+◌, ◌-◌}
use borrow.Author.Rules.{rules}
use borrow.Author.Tests.{tests}
use Rattle.std.proofs.lemmas.Iterator.{YieldsList-from_range}
use Rattle.std.proofs.lemmas.Iterator.Search.{any_from_yields_List}
use Rattle.message.specs.Element.{element_at}
use Rattle.hearing.specs.Scan.{grants}
use Rattle.hearing.proofs.Scanning.{null_next_fits, pending_any}
use Rattle.hearing.proofs.map.Map.pending.Goals as goal

pub overflow_add-self : goal.overflow_add-self
overflow_add-self c = search (rules, null_next_fits)

pub returns : goal.returns
returns c =
    let s = c.args.self.bytes.now in
    let after = c.args.self.reading.null + 1 in
    any_from_yields_List (λ i. grants c.args.sid (element_at s i).sid (element_at s i).iuc) _ _ c.any.result c.any.ensures.ran (YieldsList-from_range after c.args.self.reading.n (c.args.self.reading.n - after) refl refl) (λ x b q k. search (rules, tests))
    ∙ pending_any s c.args.self.reading c.args.self.accepted c.args.sid
