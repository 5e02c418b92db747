use Rattle.std.proofs.Common.{◌≡◌, ◌∙◌, arith, sym, refl, length}
use Rattle.std.proofs.Math.Nat.{sub-zero}
use lib.ListN.{length-set}
use Rattle.std.proofs.lemmas.Result.{err_from_is_err_and}
use Rattle.lent.proofs.Tabled.{fault_fits, table_refused, turn_s, turn_p, ends_s, ends_p}
use Rattle.lent.proofs.table.hear_table.Goals as goal
use Rattle.rules.specs.Refusals.{changed}

pub returns-in_err-table_fault : goal.returns-in_err-table_fault
returns-in_err-table_fault c = let p = err_from_is_err_and c.from_residual.result c.from_residual.ensures.1 in rw (p.1, p.2) (table_refused _ _ _ _ _ _ c.table_fault.ensures _ c.in_err-table_fault.was)

pub loop-i-init : goal.loop-i-init
loop-i-init c = record { inside = omega arith; table = refl; answers = refl; records = rw sub-zero; numbers = rw sub-zero }

pub bounds-draws-i : goal.bounds-draws-i
bounds-draws-i c = let fits = fault_fits _ _ _ (sym c.table_fault.ensures ∙ c.in_ok-table_fault.was) in omega (arith, fits.0, c.loop-i-test.true)

pub bounds-places-i : goal.bounds-places-i
bounds-places-i c = let fits = fault_fits _ _ _ (sym c.table_fault.ensures ∙ c.in_ok-table_fault.was) in omega (arith, fits.1, c.loop-i-test.true, c.loop-i.invariant.answers)

pub loop-i-preserved : goal.loop-i-preserved
loop-i-preserved c =
    let l = c.loop-i in
    let a = c.args in
    let p = c.heard-h.result in record {
      inside = omega (arith, c.loop-i-test.true);
      table = length-set l.table l.i p.station ∙ l.invariant.table;
      answers = length-set l.places l.i p.number ∙ l.invariant.answers;
      records = turn_s a.bytes.now a.present.0 a.draws.now (length a.table.now) l.i l.table p c.loop-i-test.true c.heard-h.ensures ∙ l.invariant.records;
      numbers = turn_p a.bytes.now a.present.0 a.draws.now (length a.table.now) l.i l.table l.places p c.loop-i-test.true c.heard-h.ensures ∙ l.invariant.numbers;
    }

pub returns : goal.returns
returns c =
    let l = c.loop-i in
    let n = length c.args.table.now in
    let all : n ≡ changed c.table_fault.result n 0 = rw c.in_ok-table_fault.was refl in
    let e = sym c.table_fault.ensures ∙ c.in_ok-table_fault.was in (
      sym e,
      (
        ends_s _ _ _ _ _ _ c.table_fault.ensures n all l.i c.loop-i-test.false l.table l.invariant.records,
        ends_p _ _ _ _ _ _ c.table_fault.ensures n all l.i c.loop-i-test.false l.table l.places l.invariant.numbers,
      ),
    )
