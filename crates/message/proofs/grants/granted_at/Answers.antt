use Rattle.message.proofs.Granting.{granted_at_lem}
use Rattle.message.proofs.grants.granted_at.Goals as goal

pub returns : goal.returns
returns c = granted_at_lem _ _ _ _ c.in_ok-found.was c.moved_on.ensures
