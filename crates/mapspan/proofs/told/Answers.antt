use Rattle.std.proofs.Common.{sym}
use lib.Seq.{length-take-le}
use Rattle.report.proofs.Running.{report_inside}
use Rattle.mapspan.proofs.told.Goals as goal

pub slice_bounds-out-end : goal.slice_bounds-out-end
slice_bounds-out-end c = let p = c.report.ensures in report_inside _ _ _ _ _ p.0 c.in-Ok.is p.1

pub slice_bounds-tell-end-2 : goal.slice_bounds-tell-end-2
slice_bounds-tell-end-2 c = let p = c.report.ensures in sym (length-take-le _ _ (report_inside _ _ _ _ _ p.0 c.in-Ok.is p.1))
