use Rattle.rules.proofs.rules.unknown_use.Goals as goal

pub returns : goal.returns
returns c = rw c.within.ensures
