use Rattle.rules.proofs.Ways.{ways}
use Rattle.rules.proofs.rules.sid_allowed.Goals as goal

pub returns-then-iuc-eq1 : goal.returns-then-iuc-eq1
returns-then-iuc-eq1 c = search ways

pub returns-then-iuc-eq2 : goal.returns-then-iuc-eq2
returns-then-iuc-eq2 c = search ways

pub returns-then-iuc-eq3 : goal.returns-then-iuc-eq3
returns-then-iuc-eq3 c = search ways

pub returns-then-iuc-eq7 : goal.returns-then-iuc-eq7
returns-then-iuc-eq7 c = search ways

pub returns : goal.returns
returns c = search ways
