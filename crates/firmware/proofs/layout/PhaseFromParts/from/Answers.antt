use Rattle.firmware.proofs.Ways.{layout_ways}
use Rattle.firmware.proofs.layout.PhaseFromParts.from.Goals as goal

pub returns-in-0 : goal.returns-in-0
returns-in-0 c = search layout_ways

pub returns-in-1 : goal.returns-in-1
returns-in-1 c = search layout_ways

pub returns-in-2 : goal.returns-in-2
returns-in-2 c = search layout_ways

pub returns-in_default : goal.returns-in_default
returns-in_default c = search layout_ways
