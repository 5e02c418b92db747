use Rattle.hearing.proofs.Scanning.{null_early, rises_on, place_fits, place_after_fits, pass_begins, pass_end, pass_next, pass_none, pass_sends}
use borrow.Author.Rules.{rules}
use Rattle.hearing.proofs.map.Map.pass.Goals as goal
use Rattle.hearing.proofs.map.Map.pass.Goals.{then-step-ne0+else-left-count, else-step-ne0}

pub loop-i-init : goal.loop-i-init
loop-i-init c = (search null_early, search rules, search pass_begins)

pub overflow_sub-count : goal.overflow_sub-count
overflow_sub-count c = search rises_on

pub overflow_mul-left : goal.overflow_mul-left
overflow_mul-left c = record { fits = search place_fits }

pub overflow_add-e : goal.overflow_add-e
overflow_add-e c = record { fits = search place_after_fits }

pub loop-i-preserved : goal.loop-i-preserved
loop-i-preserved c = (search rules, search rules, elim c.if-step-ne0.branch [ then-step-ne0+else-left-count w ↦ search pass_next | else-step-ne0 w ↦ search pass_none ])

pub returns : goal.returns
returns c = search pass_end

pub returns-then-left-count : goal.returns-then-left-count
returns-then-left-count c = search pass_sends
