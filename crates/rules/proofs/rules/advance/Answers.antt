use Rattle.rules.proofs.Ways.{ways}
use Rattle.rules.proofs.rules.advance.Goals as goal

pub returns-then-p : goal.returns-then-p
returns-then-p c = search ways

pub returns-then-e-eq7 : goal.returns-then-e-eq7
returns-then-e-eq7 c = search ways

pub returns : goal.returns
returns c = search ways
