use Rattle.hearing.proofs.Ways.{hear_ways}
use Rattle.hearing.proofs.hearing.hear_fault.Goals as goal

pub returns-then-fields-st : goal.returns-then-fields-st
returns-then-fields-st c = search hear_ways

pub returns-then-fields-st-2 : goal.returns-then-fields-st-2
returns-then-fields-st-2 c = search hear_ways

pub returns-then-stale : goal.returns-then-stale
returns-then-stale c = search hear_ways

pub returns-then-late : goal.returns-then-late
returns-then-late c = search hear_ways

pub returns : goal.returns
returns c = search hear_ways
