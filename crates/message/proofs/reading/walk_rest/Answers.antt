use Rattle.std.proofs.Common.{rules, refl}
use Rattle.message.proofs.Ways.{walk_end, rest_fault, rest_next}
use Rattle.message.proofs.reading.walk_rest.Goals as goal

pub loop-i-init : goal.loop-i-init
loop-i-init c = (search rules, refl)

pub returns-in-Err : goal.returns-in-Err
returns-in-Err c = search rest_fault

pub loop-i-preserved : goal.loop-i-preserved
loop-i-preserved c = (search rules, search rest_next)

pub returns : goal.returns
returns c = search (rules, walk_end)
