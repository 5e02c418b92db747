use mathlib.Core.Path.{sym, ◌∙◌}
use native.Mathlib.Omega.{arith}
use Rattle.report.proofs.Sizes.{Bytes}
use Rattle.report.proofs.Running.{report_small, report_long, bodies_room, span_room, report_whole}
use Rattle.report.proofs.reporting.report.Goals as goal

pub returns-then-out-enough : goal.returns-then-out-enough
returns-then-out-enough c = report_small _ _ _ c.enough.ensures _ c.if-out-enough.true c.from.ensures

-- the lent bytes end as what the lines hold, since the lines hold the same loan throughout
pub returns-then-input-gt-LONGEST_INPUT : goal.returns-then-input-gt-LONGEST_INPUT
returns-then-input-gt-LONGEST_INPUT c =
    let new = c.new-lines.ensures in
    let told = report_long c.args.input.now c.args.out.now _ c.enough.ensures c.if-out-enough.false _ new.out new.used c.if-input-gt-LONGEST_INPUT.true _ c.put.ensures in
    let name = sym (c.put.ensures.same ∙ new.same) in
    (told.0, grind (arith, told.1, name))

pub put_bodies-span-requires-clause-room : goal.put_bodies-span-requires-clause-room
put_bodies-span-requires-clause-room c =
    let bytes : Bytes c.args.input.now = λ j. omega (arith, c.type_inv.input j) in
    search bodies_room

pub span-requires : goal.span-requires
span-requires c =
    let bytes : Bytes c.args.input.now = λ j. omega (arith, c.type_inv.input j) in
    search span_room

pub returns : goal.returns
returns c =
    let bytes : Bytes c.args.input.now = λ j. omega (arith, c.type_inv.input j) in
    let new = c.new-lines.ensures in
    let put = c.put_bodies-span.ensures in
    let told = report_whole c.args.input.now c.args.out.now _ c.enough.ensures c.if-out-enough.false _ new.out new.used c.if-input-gt-LONGEST_INPUT.false bytes _ put.lines _ put.span _ c.span.ensures in
    let name = sym (c.span.ensures.same ∙ put.lines.same ∙ new.same) in
    (told.0, grind (arith, told.1, name))
