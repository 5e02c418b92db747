-- A refusal in one number, for C: 0 is none.
use Rattle.std.specs.Prelude.{ℕ, ◌+◌, ◌*◌, ◌%◌}
use Rattle.rules.specs.Refusals.{number_of}
use Rattle.rules.specs.declared.refusal.Refusal.{Refusal}

-- "number and element": the number in the low byte, the element in the next
abbrev pub code_of : Refusal → ℕ
code_of why = number_of why.reason % 256 + 256 * (why.element % 256)
