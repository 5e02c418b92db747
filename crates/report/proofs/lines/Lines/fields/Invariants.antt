use lib.ListN.{drop}
use Rattle.report.specs.Text.{fields_of}
use Rattle.report.proofs.Filling.{Filling}
use Rattle.report.proofs.lines.Lines.fields.Given as goal

abbrev pub invariant-loop-n : goal.invariant-loop-n
invariant-loop-n l = Filling (fields_of l.numbers) (fields_of (drop l.n-index l.numbers)) l.initial.self l.self
