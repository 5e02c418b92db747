use Rattle.hearing.proofs.Scanning.{scan_ways}
use Rattle.hearing.proofs.opportunity.noted.Goals as goal

pub returns-then-granting : goal.returns-then-granting
returns-then-granting c = search scan_ways

pub returns-then-e-length : goal.returns-then-e-length
returns-then-e-length c = search scan_ways

pub returns : goal.returns
returns c = search scan_ways
