use Rattle.message.proofs.Parting.{part_accepted, part_refused}
use Rattle.message.proofs.after.after_null.Goals as goal

pub returns-in-Ok : goal.returns-in-Ok
returns-in-Ok c = part_accepted _ _ c.read.ensures _ _ _ _ c.in-Ok.is c.after_null.ensures

pub returns-in-Err : goal.returns-in-Err
returns-in-Err c = part_refused _ _ c.read.ensures _ _ _ _ c.in-Err.is c.part_from.ensures
