use Rattle.std.proofs.Common.{rules, refl, ◌∙◌}
use Rattle.rules.specs.Rules.{walked, nothing_yet}
use Rattle.message.specs.Lists.{listed}
use Rattle.message.specs.Element.{element_in}
use Rattle.rules.proofs.Ways.{advanced_closed}
use Rattle.message.proofs.Ways.{walk_begins, walk_end, walk_fault, walk_next}
use Rattle.message.proofs.reading.walk.Goals as goal

pub loop-i-init : goal.loop-i-init
loop-i-init c = (search rules, (search rules, walk_begins _ _ (walked 0 nothing_yet (listed (element_in c.args.bytes.now) 0 c.args.n)) _ _ refl c.nothing_yet-p.ensures))

pub walk_rest-requires : goal.walk_rest-requires
walk_rest-requires c = (search rules, (advanced_closed _ _ _ _ c.loop-i.invariant.0 c.advance-p.ensures c.if-p.true, (search rules, search rules)))

pub loop-i-preserved : goal.loop-i-preserved
loop-i-preserved c = (search rules, (search rules, search walk_next))

pub returns-then-n-i : goal.returns-then-n-i
returns-then-n-i c = search walk_end

pub returns-in-Err : goal.returns-in-Err
returns-in-Err c = search walk_fault

pub returns-then-p : goal.returns-then-p
returns-then-p c = c.walk_rest.ensures ∙ walk_next _ _ _ _ _ c.if-n-i.false c.loop-i.invariant.1.1 _ c.element_in-e.ensures _ _ c.fault.ensures c.in_default.is c.advance-p.ensures
