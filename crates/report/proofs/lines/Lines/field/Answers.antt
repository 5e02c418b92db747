use Rattle.report.proofs.Putting.{field_room, field_done}
use Rattle.report.proofs.lines.Lines.field.Goals as goal

pub put-requires-2 : goal.put-requires-2
put-requires-2 c = let d = c.decimal-k.ensures in field_room c.args.n _ _ c.requires _ _ d.len d.digits c.put.ensures

pub returns : goal.returns
returns c = let d = c.decimal-k.ensures in field_done c.args.n _ _ c.requires _ _ d.len d.digits c.put.ensures _ c.put-2.ensures
