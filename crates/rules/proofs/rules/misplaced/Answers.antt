use Rattle.rules.proofs.Ways.{ways}
use Rattle.rules.proofs.rules.misplaced.Goals as goal

pub returns-then-p : goal.returns-then-p
returns-then-p c = search ways

pub returns-then-p-2 : goal.returns-then-p-2
returns-then-p-2 c = search ways

pub returns : goal.returns
returns c = search ways
