use Rattle.lent.proofs.Forties.{windows}
use Rattle.lent.proofs.forty.part_of.Goals as goal

pub returns-then-first-gt40 : goal.returns-then-first-gt40
returns-then-first-gt40 c = search windows

pub returns-then-first-count : goal.returns-then-first-count
returns-then-first-count c = search windows

pub returns : goal.returns
returns c = search windows
