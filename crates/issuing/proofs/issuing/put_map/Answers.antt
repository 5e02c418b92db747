use mathlib.Core.Path.{ap, ◌∙◌}
use native.Mathlib.Omega.{arith}
use lib.ListN.{length, replicate}
use Rattle.issuing.proofs.Planned.{plan_size}
use Rattle.issuing.proofs.Issues.{made}
use Rattle.issuing.proofs.issuing.put_map.Goals as goal

pub returns : goal.returns
returns c =
    let plan = c.args.plan in
    let size = ap length c.elements_of-elements.ensures ∙ plan_size c.args.h.short c.args.c plan.granted.now plan.pending.now in
    let message = made _ _ _ (replicate 280 0) _ size c.lay_out.ensures (omega (arith, c.requires.0)) in
    rw (message, c.fields_of.ensures, c.elements_of-elements.ensures) at c.selfcheck.ensures
