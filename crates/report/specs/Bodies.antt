-- Document 01, "The report": "at most 65,536 bytes of MAP bodies back to back".
use Rattle.std.specs.Prelude.{ℕ, zero, suc, ◌+◌, ◌*◌, cond, ◌||◌, List, [], ◌∷◌, ltb, eqb, length, take, drop, Result, Ok, Err}
use Rattle.slots.specs.Span.{Described}
use Rattle.message.specs.declared.reading.Reading.{Reading}
use Rattle.rules.specs.declared.refusal.Reason.{Reason}
use Rattle.rules.specs.declared.refusal.Reason.TheVariants.{Short, Count, Length}
use Rattle.rules.specs.declared.refusal.Refusal.{Refusal}
use Rattle.message.specs.Fields.{count_of}
use Rattle.message.specs.Reading.{read_of}
use Rattle.report.specs.declared.bodies.Row.{Row}

-- a MAP, or why it is refused
abbrev pub Body : Type 0
Body = Result Row Reason

-- "Each body takes 16 + 4n bytes"
abbrev pub size_of : ℕ → ℕ
size_of n = 16 + 4 * n

-- the message's own answer: start, map length and n, or why it is refused
abbrev pub body_by : Result Reading Refusal → Body
body_by (Ok reading) = Ok (record { start = reading.fields.start; length = reading.length; n = reading.n })
body_by (Err why) = Err why.reason

-- "under 16 left is 1"; n 0 or over 240 is 2; "fewer than 16 + 4n left is 3"; then the message's own
unfoldable pub next_of : List ℕ → Body
next_of s =
    cond (ltb (length s) 16) (Err Short)
    (cond (eqb (count_of s) 0 || ltb 240 (count_of s)) (Err Count)
    (cond (ltb (length s) (size_of (count_of s))) (Err Length)
    (body_by (read_of (take (size_of (count_of s)) s)))))

-- a MAP, and what follows it; "The first bad one .. ends reading"
abbrev pub and_more : Body → (ℕ → List Body) → List Body
and_more (Ok row) more = Ok row ∷ more (size_of row.n)
and_more (Err why) more = Err why ∷ []

-- at most k bodies, one after the other; nothing left is the end
unfoldable pub bodies_from : ℕ → List ℕ → List Body
bodies_from zero s = []
bodies_from (suc k) s = cond (eqb (length s) 0) [] (and_more (next_of s) (λ n. bodies_from k (drop n s)))

-- all of them: there are no more bodies than bytes
abbrev pub bodies_of : List ℕ → List Body
bodies_of s = bodies_from (length s) s

-- "over the MAPs before it": the good ones, as far as the span goes
unfoldable pub maps_in : List Body → List Described
maps_in [] = []
maps_in (Ok row ∷ bs) = record { start = row.start.0; length = row.length } ∷ maps_in bs
maps_in (Err why ∷ bs) = []
