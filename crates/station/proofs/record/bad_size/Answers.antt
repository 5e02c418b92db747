use Rattle.station.proofs.record.bad_size.Goals as goal

pub returns : goal.returns
returns c = rw c.within.ensures
