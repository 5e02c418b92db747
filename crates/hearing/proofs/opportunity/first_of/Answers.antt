use Rattle.hearing.proofs.Scanning.{first_or}
use Rattle.hearing.proofs.opportunity.first_of.Goals as goal

pub returns : goal.returns
returns c = first_or _ _ _ c.or.ensures
