use mathlib.Core.Path.{sym, ◌∙◌}
use native.Mathlib.Omega.{arith}
use Rattle.issuing.proofs.Held.{granted_first, pending_after, length_granted}
use Rattle.issuing.proofs.plan.plan_within.Goals as goal

pub split_at-requires : goal.split_at-requires
split_at-requires c = omega (arith, length_granted c.args.room c.args.held.now, c.grants_within-grants.ensures.0)

pub returns : goal.returns
returns c = record {
  granted = c.split_at.ensures.front ∙ rw c.grants_within-grants.ensures.0 (sym (granted_first _ _));
  pending = c.split_at.ensures.back ∙ rw c.grants_within-grants.ensures.0 (sym (pending_after _ _));
  total = c.grants_within-grants.ensures.1;
}
