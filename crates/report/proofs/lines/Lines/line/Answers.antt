use Rattle.report.proofs.Putting.{word_room, numbers_room, newline_room, line_done}
use Rattle.report.proofs.lines.Lines.line.Goals as goal

pub put-requires : goal.put-requires
put-requires c = word_room _ _ c.args.self.now c.requires

pub fields-requires : goal.fields-requires
fields-requires c = numbers_room _ _ _ c.requires _ c.put.ensures

pub put-requires-2 : goal.put-requires-2
put-requires-2 c = newline_room _ _ _ c.requires _ c.put.ensures _ c.fields.ensures

pub returns : goal.returns
returns c = line_done _ _ _ c.requires _ c.put.ensures _ c.fields.ensures _ c.put-2.ensures
