use Rattle.station.proofs.record.bad_r.Goals as goal

pub returns : goal.returns
returns c = rw c.within.ensures
