use Rattle.hearing.proofs.hearing.late.Goals as goal

pub returns : goal.returns
returns c = rw c.earlier.ensures
