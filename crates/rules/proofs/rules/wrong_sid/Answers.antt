use Rattle.rules.proofs.rules.wrong_sid.Goals as goal

pub returns : goal.returns
returns c = rw c.sid_allowed.ensures
