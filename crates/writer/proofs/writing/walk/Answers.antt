use native.Mathlib.Omega.{arith}
use Rattle.writer.proofs.Stores.{walk_ends, walk_stops, walk_goes_on}
use Rattle.writer.proofs.writing.walk.Goals as goal

pub loop-e-preserved : goal.loop-e-preserved
loop-e-preserved c =
    let here = c.in-Some.ensures.cases in
    record { place = omega (arith, here.1); same = walk_goes_on _ _ _ _ c.loop-e.invariant.same _ _ here.0 _ c.fault.ensures c.in_default-fault.is _ c.advance-p.ensures }

pub returns-in_default : goal.returns-in_default
returns-in_default c = walk_ends _ _ _ _ c.loop-e.invariant.same _ c.in_default.ensures.cases c.ended.ensures

pub returns-in-Err : goal.returns-in-Err
returns-in-Err c = walk_stops _ _ _ _ c.loop-e.invariant.same _ _ c.in-Some.ensures.cases.0 _ c.fault.ensures _ c.in-Err.is
