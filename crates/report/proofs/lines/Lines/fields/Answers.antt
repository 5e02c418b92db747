use Rattle.report.proofs.Filling.{fill_begins}
use Rattle.report.proofs.Putting.{fields_room, fields_next, fields_end}
use Rattle.report.proofs.lines.Lines.fields.Goals as goal

pub loop-n-init : goal.loop-n-init
loop-n-init c = fill_begins _ _ c.requires

pub field-requires : goal.field-requires
field-requires c = fields_room _ _ _ _ _ c.loop-n-test.true c.loop-n.invariant

pub loop-n-preserved : goal.loop-n-preserved
loop-n-preserved c = fields_next _ _ _ _ _ c.loop-n-test.true c.loop-n.invariant _ c.field.ensures

pub returns : goal.returns
returns c = fields_end _ _ _ _ c.loop-n-test.false c.loop-n.invariant
