use Rattle.std.proofs.Common.{length, ◌-◌, ◌≡◌, ◌≤◌, take}
use Rattle.std.specs.Io.KnownBytes.{Consumes}
use Rattle.stream.proofs.reading.whole.Given as goal

abbrev pub invariant-loop-at : goal.invariant-loop-at
invariant-loop-at g l = record {
  same_length : length l.input ≡ length l.initial.input;
  within : l.at ≤ length l.input;
  came : Consumes (g.R.Read.remaining l.initial.from) (g.R.Read.remaining l.from) (take l.at l.input);
  quiet : l.errors ≡ l.initial.errors;
}

abbrev pub decreases-loop-at : goal.decreases-loop-at
decreases-loop-at g l = length l.initial.input - l.at
