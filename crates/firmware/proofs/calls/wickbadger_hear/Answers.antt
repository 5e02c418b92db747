use Rattle.firmware.proofs.Ways.{hear_heard, hear_refused}
use Rattle.firmware.proofs.calls.wickbadger_hear.Goals as goal

pub returns-in-Ok : goal.returns-in-Ok
returns-in-Ok c = rw (c.numbers.ensures, c.flag.ensures, c.time_in.ensures) (hear_heard _ _ _ _ c.args.heard.now _ c.heard_at.ensures _ _ c.in-Ok.is)

pub returns-in-Err : goal.returns-in-Err
returns-in-Err c = rw c.code_of.ensures (hear_refused _ _ _ _ c.args.heard.now _ c.heard_at.ensures _ c.in-Err.is)
