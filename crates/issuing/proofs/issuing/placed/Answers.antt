use Rattle.issuing.proofs.Issues.{placed}
use Rattle.issuing.proofs.issuing.placed.Goals as goal

pub returns : goal.returns
returns c = placed c.args.requests.now _ c.requires (rw c.copy_from_slice.ensures.after)
