use Rattle.headend.proofs.Checks.{ways}
use Rattle.headend.proofs.record.Headend.new.Goals as goal

pub returns-then-bad : goal.returns-then-bad
returns-then-bad c = search ways

pub returns : goal.returns
returns c = search ways
