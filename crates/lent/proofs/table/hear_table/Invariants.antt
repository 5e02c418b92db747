use Rattle.std.proofs.Common.{◌≡◌, ◌-◌, ◌≤◌, length}
use Rattle.lent.proofs.Tabled.{go_s, go_p}
use Rattle.lent.proofs.table.hear_table.Given as goal

-- so many turns are left, and they make of what stands there now what all turns make of what stood there
abbrev pub invariant-loop-i : goal.invariant-loop-i
invariant-loop-i l = record {
  inside : l.i ≤ length l.initial.table;
  table : length l.table ≡ length l.initial.table;
  answers : length l.places ≡ length l.initial.places;
  records : go_s l.bytes l.present.0 l.draws (length l.initial.table - l.i) l.i l.table ≡ go_s l.bytes l.present.0 l.draws (length l.initial.table) 0 l.initial.table;
  numbers : go_p l.bytes l.present.0 l.draws (length l.initial.table - l.i) l.i l.table l.places ≡ go_p l.bytes l.present.0 l.draws (length l.initial.table) 0 l.initial.table l.initial.places;
}
