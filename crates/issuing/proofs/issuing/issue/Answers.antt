use native.Mathlib.Omega.{arith}
use lib.ListN.{length}
use mathlib.Core.Path.{sym, ◌∙◌}
use Rattle.issuing.proofs.Issues.{called, Bounded, bounded, issue_refused, issue_selfcheck, issue_done}
use Rattle.issuing.proofs.issuing.issue.Goals as goal
use Rattle.issuing.proofs.issuing.issue.Goals.{After-plan_within-plan}

planned : (c : After-plan_within-plan) → Bounded c.args.headend c.args.c (length c.args.out.now) c.plan_within-plan.result.granted.now c.plan_within-plan.result.pending.now c.plan_within-plan.result.total
planned c =
    let p = rw c.held_requests.ensures.held at c.plan_within-plan.ensures in
    bounded _ _ _ _ _ _ p.granted p.pending p.total _ _ _ c.call_fault.ensures c.in_default.is

pub returns-in-Err : goal.returns-in-Err
returns-in-Err c = issue_refused _ _ _ _ _ _ c.call_fault.ensures _ _ c.in-Err.is c.refused.ensures

pub overflow_sub-budget : goal.overflow_sub-budget
overflow_sub-budget c = let k = called _ _ _ _ _ (sym c.call_fault.ensures ∙ c.in_default.is) in omega arith

pub put_map-requires : goal.put_map-requires
put_map-requires c = let b = planned (goal.at.put_map-requires c).After-plan_within-plan in (omega arith, (b.map, omega arith))

pub returns-in-Err-put_map : goal.returns-in-Err-put_map
returns-in-Err-put_map c =
    let p = rw c.held_requests.ensures.held at c.plan_within-plan.ensures in
    issue_selfcheck _ _ _ _ _ _ c.call_fault.ensures c.in_default.is _ _ _ p.granted p.pending p.total _ _ c.put_map.ensures _ _ c.in-Err-put_map.is c.refused-in-Err-put_map.ensures

pub overflow_add-c : goal.overflow_add-c
overflow_add-c c = let b = planned (goal.at.overflow_add-c c).After-plan_within-plan in omega arith

pub moved_to-requires : goal.moved_to-requires
moved_to-requires c = let b = planned (goal.at.moved_to-requires c).After-plan_within-plan in omega arith

pub overflow_mul-result : goal.overflow_mul-result
overflow_mul-result c = let b = planned (goal.at.overflow_mul-result c).After-plan_within-plan in omega arith

pub overflow_add-result : goal.overflow_add-result
overflow_add-result c = let b = planned (goal.at.overflow_add-result c).After-plan_within-plan in omega arith

pub returns : goal.returns
returns c =
    let p = rw c.held_requests.ensures.held at c.plan_within-plan.ensures in
    issue_done _ _ _ _ _ _ c.call_fault.ensures c.in_default.is _ _ _ p.granted p.pending p.total _ _ c.put_map.ensures _ c.in_default-put_map.is c.moved_to.ensures
