use Rattle.hearing.proofs.Ways.{found_own, taken_granted, taken_quiet}
use Rattle.hearing.proofs.hearing.take.Goals as goal

pub returns-then-found-ne0 : goal.returns-then-found-ne0
returns-then-found-ne0 c = search taken_granted

pub after_deferring-after-requires : goal.after_deferring-after-requires
after_deferring-after-requires c = search found_own

pub returns : goal.returns
returns c = search taken_quiet
