use Rattle.headend.proofs.Checks.{ways}
use Rattle.headend.proofs.setup.record_fault.Goals as goal

pub returns-then-bad : goal.returns-then-bad
returns-then-bad c = search ways

pub returns-then-any_bad_sid : goal.returns-then-any_bad_sid
returns-then-any_bad_sid c = search ways

pub returns-then-h-gt-MOST_HELD : goal.returns-then-h-gt-MOST_HELD
returns-then-h-gt-MOST_HELD c = search ways

pub returns-then-any_bad_size : goal.returns-then-any_bad_size
returns-then-any_bad_size c = search ways

pub returns : goal.returns
returns c = search ways
