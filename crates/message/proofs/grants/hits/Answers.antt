use Rattle.message.specs.Scan.{hits}
use Rattle.message.proofs.grants.hits.Goals as goal

pub returns : goal.returns
unfolding hits
returns c = rw c.grants_sid.ensures
