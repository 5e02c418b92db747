-- Document 01, "The message": "The reader also hands back the part of the caller's bytes that follows the Null, which may be empty."
use Rattle.std.specs.Prelude.{ℕ, ◌+◌, ◌*◌, min, ◌≡◌, List, [], length, drop, Result, Ok, Err}
use Rattle.rules.specs.declared.refusal.Refusal.{Refusal}
use Rattle.message.specs.declared.reading.Reading.{Reading}
use Rattle.message.specs.Reading.{read_of}

-- 16 bytes of header, 4 of each element up to and including the Null
abbrev pub part_by : Result Reading Refusal → List ℕ → List ℕ
part_by (Ok reading) s = drop (20 + 4 * reading.null) s
part_by (Err why) s = []

unfoldable pub after_null_of : List ℕ → List ℕ
after_null_of s = part_by (read_of s) s

-- .. and where it begins: at the end of bytes that end before it, or are refused
abbrev pub start_after : ℕ → List ℕ → ℕ
start_after null s = min (20 + 4 * null) (length s)

abbrev pub start_by : Result Reading Refusal → List ℕ → ℕ
start_by (Ok reading) s = start_after reading.null s
start_by (Err why) s = length s

unfoldable pub after_null_at : List ℕ → ℕ
after_null_at s = start_by (read_of s) s

-- "the part of the caller's bytes": in the same block of memory, so many bytes further on
abbrev pub PartAt : ℕ → ℕ × ℕ → ℕ × ℕ → Type 0
PartAt at whole part = (part.0 ≡ whole.0) × (part.1 ≡ whole.1 + at)
