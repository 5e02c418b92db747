use mathlib.Core.Path.{refl}
use Rattle.issuing.proofs.Plans.{plan_whole}
use Rattle.issuing.proofs.plan.elements_of.Goals as goal

pub returns : goal.returns
returns c = plan_whole _ _ _ _ c.requires.0 _ _ _ _ _ _ refl c.put_grants-length.ensures c.put_pendings.ensures
