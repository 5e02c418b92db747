use Rattle.hearing.proofs.Ways.{unheard_hear, heard_read, heard_hear}
use Rattle.hearing.proofs.hearing.hear.Goals as goal

pub invariant_of-heard : goal.invariant_of-heard
invariant_of-heard c = record { accepted = heard_read _ _ _ _ c.hearable.ensures _ c.in-Ok.is }

pub returns-in-Err : goal.returns-in-Err
returns-in-Err c = search unheard_hear

pub returns-in-Ok : goal.returns-in-Ok
returns-in-Ok c = search heard_hear
