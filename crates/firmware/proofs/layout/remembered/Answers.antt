use mathlib.Core.Path.{◌∙◌}
use Rattle.firmware.proofs.Ways.{remembering}
use Rattle.firmware.proofs.layout.remembered.Goals as goal

pub returns : goal.returns
returns c = c.then_some.ensures ∙ remembering _ _
