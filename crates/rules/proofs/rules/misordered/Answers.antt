use Rattle.rules.proofs.Ways.{ways}
use Rattle.rules.proofs.rules.misordered.Goals as goal

pub returns-then-p : goal.returns-then-p
returns-then-p c = search ways

pub returns : goal.returns
returns c = search ways
