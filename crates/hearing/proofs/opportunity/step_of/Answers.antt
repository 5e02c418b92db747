use Rattle.hearing.proofs.Scanning.{scan_ways}
use Rattle.hearing.proofs.opportunity.step_of.Goals as goal

pub returns-in-1 : goal.returns-in-1
returns-in-1 c = search scan_ways

pub returns-in-2 : goal.returns-in-2
returns-in-2 c = search scan_ways

pub returns-in_default : goal.returns-in_default
returns-in_default c = search scan_ways

pub returns-in_default-2 : goal.returns-in_default-2
returns-in_default-2 c = search scan_ways

pub returns-in_default-3 : goal.returns-in_default-3
returns-in_default-3 c = search scan_ways

pub returns-in_default-4 : goal.returns-in_default-4
returns-in_default-4 c = search scan_ways
