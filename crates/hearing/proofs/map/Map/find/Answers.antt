use Rattle.hearing.proofs.Scanning.{null_early, rises_on, find_begins, find_end, find_next, find_other, find_few, find_same}
use borrow.Author.Rules.{rules}
use Rattle.hearing.proofs.map.Map.find.Goals as goal
use Rattle.hearing.proofs.map.Map.find.Goals.{then-e-sid, else-e-sid}

pub loop-i-init : goal.loop-i-init
loop-i-init c = (search null_early, search rules, search rules, search find_begins)

pub overflow_sub-next : goal.overflow_sub-next
overflow_sub-next c = search rises_on

pub loop-i-preserved : goal.loop-i-preserved
loop-i-preserved c =
    let ok = c.args.self.accepted in
    let is = c.element-e.ensures in
    let left = c.loop-i.invariant.3 in (
      search rules,
      search rules,
      elim c.if-e-sid.branch [ then-e-sid w ↦ search find_few | else-e-sid w ↦ search find_same ],
      elim c.if-e-sid.branch [
        | then-e-sid w ↦ find_next _ _ ok _ _ _ _ _ _ _ _ (search rules) is left _ _ w.if-e-sid.true w.found-is w.element-next.ensures w.noted-found.ensures
        | else-e-sid w ↦ find_other _ _ ok _ _ _ _ _ _ _ _ (search rules) is left w.found-is w.if-e-sid.false
      ],
    )

pub returns : goal.returns
returns c = search find_end
