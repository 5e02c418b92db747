use Rattle.rules.proofs.Ways.{ways}
use Rattle.rules.proofs.rules.standing_fault.Goals as goal

pub returns-then-unknown_use : goal.returns-then-unknown_use
returns-then-unknown_use c = search ways

pub returns-then-misordered : goal.returns-then-misordered
returns-then-misordered c = search ways

pub returns-then-wrong_sid : goal.returns-then-wrong_sid
returns-then-wrong_sid c = search ways

pub returns-then-misplaced : goal.returns-then-misplaced
returns-then-misplaced c = search ways

pub returns : goal.returns
returns c = search ways
