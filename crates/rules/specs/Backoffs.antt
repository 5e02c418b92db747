-- Document 01, "Refusal numbers": the backoffs of a header.
use Rattle.std.specs.Prelude.{Bool, ◌||◌, ltb}
use Rattle.rules.specs.declared.fields.Backoff.{Backoff}
use Rattle.rules.specs.declared.fields.Fields.{Fields}

-- 4: "a backoff over 15, or a start above its end (house rule)"
abbrev pub bad_backoff : Backoff → Bool
bad_backoff b = ltb 15 b.start || ltb 15 b.end || ltb b.end b.start

unfoldable pub bad_backoffs : Fields → Bool
bad_backoffs f = bad_backoff f.ranging || bad_backoff f.«data»
