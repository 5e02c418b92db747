-- Document 01, "The station": the backoff.
use Rattle.std.specs.Prelude.{ℕ, ◌+◌, ◌%◌, ◌^◌, min}
use Rattle.rules.specs.declared.fields.Fields.{Fields}

-- "exponent data backoff start"
abbrev pub first_exponent : Fields → ℕ
first_exponent f = f.«data».start

-- "the exponent becomes the smaller of exponent + 1 and data backoff end"
abbrev pub next_exponent : Fields → ℕ → ℕ
next_exponent f exponent = min (exponent + 1) f.«data».end

-- "draw mod 2^exponent opportunities"
abbrev pub drawn : ℕ → ℕ → ℕ
drawn draw exponent = draw % 2 ^ exponent
