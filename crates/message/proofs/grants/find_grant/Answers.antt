use Rattle.std.proofs.Common.{rules, refl}
use Rattle.message.proofs.Granting.{past_end, scan_begins, scan_end, scan_null, scan_next, scans}
use Rattle.message.proofs.grants.find_grant.Goals as goal

pub loop-i-init : goal.loop-i-init
loop-i-init c = (search rules, (search rules, scan_begins _ _ _ _ _ _ refl refl))

pub loop-i-preserved : goal.loop-i-preserved
loop-i-preserved c = (search rules, (c.element_at-next.ensures, scan_next _ _ _ _ _ _ c.loop-i.invariant.1.1 c.loop-i-test.true _ c.loop-i.invariant.1.0 c.if-e-eq7.false (past_end _ _ c.requires) _ c.element_at-next.ensures _ _ c.hits.ensures c.if-hits.false c.passed-left.ensures))

pub returns-then-e-eq7 : goal.returns-then-e-eq7
returns-then-e-eq7 c = search scan_null

pub returns-then-hits : goal.returns-then-hits
returns-then-hits c = search scans

pub returns : goal.returns
returns c = search (rules, scan_end)
