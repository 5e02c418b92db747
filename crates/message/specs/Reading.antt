-- Document 01, "The message" and "Refusal numbers": reading.
use Rattle.std.specs.Prelude.{ℕ, ◌+◌, ◌*◌, cond, not, ◌||◌, List, ltb, eqb, length, Result, Ok, Err}
use Rattle.rules.specs.declared.fields.Fields.{Fields}
use Rattle.rules.specs.declared.rules.Whole.{Whole}
use Rattle.rules.specs.declared.refusal.Reason.{Reason}
use Rattle.rules.specs.declared.refusal.Reason.TheVariants.{Short, Count, Length, Backoff}
use Rattle.rules.specs.declared.refusal.Refusal.{Refusal}
use Rattle.message.specs.declared.reading.Reading.{Reading}
use Rattle.rules.specs.Refusals.{unless}
use Rattle.message.specs.Element.{element_in}
use Rattle.rules.specs.Backoffs.{bad_backoffs}
use Rattle.message.specs.Fields.{fields_of, count_of}
use Rattle.rules.specs.Rules.{walked, nothing_yet}
use Rattle.message.specs.Map.{Map}
use Rattle.message.specs.Lists.{listed}

-- "Order: for a message 1, 2, 3, 4"
unfoldable pub header_fault : List ℕ → Result Unit Reason
header_fault s =
    cond (ltb (length s) 16) (Err Short)
    (cond (eqb (count_of s) 0 || ltb 240 (count_of s)) (Err Count)
    (cond (not (eqb (length s) (16 + 4 * count_of s))) (Err Length)
    (cond (bad_backoffs (fields_of s)) (Err Backoff) (Ok tt))))

-- the MAP that stands in the bytes
abbrev pub map_of : List ℕ → Map
map_of s = record { fields = fields_of s; elements = listed (element_in s) 0 (count_of s) }

abbrev pub reading_of : Fields → ℕ → Result Whole Refusal → Result Reading Refusal
reading_of f n (Ok w) = Ok (record { fields = f; n = n; null = w.null; length = w.length })
reading_of f n (Err why) = Err why

-- .. "then element by element from element 0"
unfoldable pub read_of : List ℕ → Result Reading Refusal
read_of s = unless (header_fault s) 0 (reading_of (map_of s).fields (count_of s) (walked 0 nothing_yet (map_of s).elements))
