use Rattle.std.proofs.Common.{rules}
use Rattle.std.proofs.lemmas.Result.{err_from_is_err_and}
use Rattle.rules.proofs.Ways.{fault_standing, fault_8, fault_9, fault_none}
use Rattle.rules.proofs.rules.fault.Goals as goal

pub returns-in_err-standing_fault : goal.returns-in_err-standing_fault
returns-in_err-standing_fault c = let p = err_from_is_err_and c.from_residual.result c.from_residual.ensures.1 in rw (p.1, p.2) (fault_standing _ _ _ c.standing_fault.ensures _ c.in_err-standing_fault.was)

pub returns-then-too_far : goal.returns-then-too_far
returns-then-too_far c = fault_8 _ _ _ c.standing_fault.ensures _ c.in_ok-standing_fault.was (search rules)

pub returns-then-grant_too_long : goal.returns-then-grant_too_long
returns-then-grant_too_long c = fault_9 _ _ _ c.standing_fault.ensures _ c.in_ok-standing_fault.was (search rules) (search rules)

pub returns : goal.returns
returns c = fault_none _ _ _ c.standing_fault.ensures _ c.in_ok-standing_fault.was (search rules) (search rules)
