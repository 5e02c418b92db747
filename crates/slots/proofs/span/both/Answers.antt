use Rattle.slots.proofs.span.both.Goals as goal

pub returns : goal.returns
returns c = rw (c.within.ensures, c.within-2.ensures)
