-- Document 01, "The report": its text, in ASCII.
use Rattle.std.specs.Prelude.{ℕ, ◌+◌, List, [], ◌∷◌, ◌++◌, length, drop, Ok, Err}
use Rattle.slots.specs.declared.span.Span.{Span}
use Rattle.slots.specs.declared.span.Span.TheVariants.{Nothing, Lost, Over}
use Rattle.slots.specs.Time.{moved_on}
use Rattle.rules.specs.declared.refusal.Reason.{Reason}
use Rattle.rules.specs.Refusals.{number_of}
use Rattle.slots.specs.Span.{span_of}
use Rattle.report.specs.declared.bodies.Row.{Row}
use Rattle.report.specs.Bodies.{Body, bodies_of, maps_in}
use Rattle.report.specs.Decimal.{decimal_of}

-- one space, and a number
abbrev pub field_of : ℕ → List ℕ
field_of n = 32 ∷ decimal_of n

unfoldable pub fields_of : List ℕ → List ℕ
fields_of [] = []
fields_of (n ∷ ns) = field_of n ++ fields_of ns

-- a word, its numbers, and a newline
unfoldable pub line_of : List ℕ → List ℕ → List ℕ
line_of word numbers = word ++ (fields_of numbers ++ (10 ∷ []))

-- "`map`, its number from 0, start, end, n"
abbrev pub map_line : ℕ → Row → List ℕ
map_line i row =
    -- map
    line_of (109 ∷ 97 ∷ 112 ∷ []) (i ∷ row.start.0 ∷ moved_on 32 row.start.0 row.length ∷ row.n ∷ [])

-- "`refused`, its number from 0, the refusal number"
abbrev pub refused_line : ℕ → Reason → List ℕ
refused_line i why =
    -- refused
    line_of (114 ∷ 101 ∷ 102 ∷ 117 ∷ 115 ∷ 101 ∷ 100 ∷ []) (i ∷ number_of why ∷ [])

-- span none, and a newline
abbrev pub span_none : List ℕ
span_none = 115 ∷ 112 ∷ 97 ∷ 110 ∷ 32 ∷ 110 ∷ 111 ∷ 110 ∷ 101 ∷ 10 ∷ []

-- "`span` E L, or `span none`"
abbrev pub span_line : Span → List ℕ
span_line Nothing = span_none
span_line Lost = span_none
span_line (Over e l) =
    -- span
    line_of (115 ∷ 112 ∷ 97 ∷ 110 ∷ []) (e.0 ∷ l.0 ∷ [])

-- a line for each body from number i on; the bad one is the last
unfoldable pub lines_from : ℕ → List Body → List ℕ
lines_from i [] = []
lines_from i (Ok row ∷ bs) = map_line i row ++ lines_from (i + 1) bs
lines_from i (Err why ∷ bs) = refused_line i why

-- "Last, over the MAPs before it, `span`"
unfoldable pub text_of : List ℕ → List ℕ
text_of s = lines_from 0 (bodies_of s) ++ span_line (span_of 32 (maps_in (bodies_of s)))

-- text put over the bytes from the start: "the rest of the buffer is as it came"
abbrev pub onto : List ℕ → List ℕ → List ℕ
onto text o = text ++ drop (length text) o
