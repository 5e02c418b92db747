-- How long the report is at most.
use mathlib.Core.Path.{◌≡◌, refl, ◌∙◌}
use mathlib.Core.Bool.{Bool, true, false, cond}
use mathlib.Core.List.{List, [], ◌∷◌, ◌++◌}
use Prim.Native.Nat.{ℕ, zero, suc, ◌+◌, ◌-◌, ◌*◌, ◌/◌, ◌%◌, ◌^◌, ◌≤◌, ◌<◌}
use native.Mathlib.Nat.{min-le_left}
use native.Mathlib.Omega.{arith}
use lib.Dec.{ltb, eqb}
use lib.ListN.{length, drop, get_or, length-append, length-drop}
use lib.Seq.{get_or-drop}
use borrow.Author.Tests.{ltb-false}
use Rattle.slots.specs.declared.span.Span.{Span}
use Rattle.slots.specs.Time.{ahead, moved_on}
use Rattle.slots.specs.Span.{Described, end_of, qualifies, further, furthest, over, span_from, span_of}
use Rattle.message.specs.Element.{word_at}
use Rattle.report.specs.declared.bodies.Row.{Row}
use Rattle.std.specs.Prelude.{Ok, Err}
use Rattle.report.specs.Bodies.{Body, size_of, next_of, and_more, bodies_from, bodies_of, maps_in}
use Rattle.report.specs.Decimal.{decimal_of}
use Rattle.report.specs.Text.{field_of, fields_of, line_of, map_line, refused_line, span_line, lines_from, text_of}
use Rattle.report.specs.Report.{enough, report_of, refused_input}
use Rattle.report.proofs.Decimals.{decimal_short}
use Rattle.rules.specs.declared.refusal.Reason.{Reason}
use Rattle.rules.specs.Refusals.{number_of}
use Rattle.report.proofs.Next.{at_most, number_short, Good, next_good}

-- bytes are below 256
abbrev pub Bytes : List ℕ → Type 0
Bytes s = (j : ℕ) → get_or s j 0 < 256

-- the bytes of some numbers, each after a space
abbrev spaced : List ℕ → ℕ
spaced [] = 0
spaced (n ∷ ns) = suc (length (decimal_of n)) + spaced ns

fields_long : (ns : List ℕ) → length (fields_of ns) ≡ spaced ns
unfolding fields_of
fields_long [] = refl
fields_long (n ∷ ns) = length-append (field_of n) (fields_of ns) ∙ omega (arith, fields_long ns)

line_long : (word ns : List ℕ) → length (line_of word ns) ≡ length word + (spaced ns + 1)
unfolding line_of
line_long word ns =
    length-append word (fields_of ns ++ (10 ∷ []))
    ∙ omega (arith, length-append (fields_of ns) (10 ∷ []), fields_long ns)

ten_digits : (n : ℕ) → n < 2 ^ 32 → length (decimal_of n) ≤ 10
ten_digits n h = decimal_short n 10 (omega arith) (omega arith)

-- `span` and two numbers of 32 bits: 4 + 2 + 20 + 1
over_short : (e l : ℕ) → e < 2 ^ 32 → l < 2 ^ 32 → length (span_line (over 32 e l)) ≤ 27
over_short e l h k = omega (arith, line_long (115 ∷ 112 ∷ 97 ∷ 110 ∷ []) (e ∷ l ∷ []), ten_digits e h, ten_digits l k)

furthest_below : (ms : List Described) (e : ℕ) → e < 2 ^ 32 → furthest 32 ms e < 2 ^ 32
unfolding furthest further
furthest_below [] e h = h
furthest_below (m ∷ ms) e h =
    at_most suc (2 ^ 32) (ltb (ahead 32 e (end_of 32 m)) (ahead 32 e (furthest 32 ms e))) _ _ (furthest_below ms e h) (omega arith)

from_short : (all ms : List Described) → length (span_line (span_from 32 all ms)) ≤ 27
unfolding span_from
from_short all [] = omega arith
from_short all (m ∷ ms) =
    at_most (λ (p : Span). length (span_line p)) 27 (qualifies 32 all (m.start % 2 ^ 32)) _ _
    (over_short (m.start % 2 ^ 32) (furthest 32 all (m.start % 2 ^ 32)) (omega arith) (furthest_below all (m.start % 2 ^ 32) (omega arith)))
    (from_short all ms)

span_short : (ms : List Described) → length (span_line (span_of 32 ms)) ≤ 27
unfolding span_of
span_short [] = omega arith
span_short (m ∷ ms) = from_short (m ∷ ms) (m ∷ ms)

word_below : (s : List ℕ) (at : ℕ) → Bytes s → word_at s at < 2 ^ 32
unfolding word_at
word_below s at h = omega (arith, h at, h (at + 1), h (at + 2), h (at + 3))

-- `map`, at most 4 digits of its number, two numbers of 32 bits, n: 3 + 4 + 4 + 20 + 3 + 1
map_short : (s : List ℕ) (row : Row) (i : ℕ) → Bytes s → Good s row → i < 10000 → length (map_line i row) ≤ 35
map_short s row i bytes g h =
    let end = moved_on 32 row.start.0 row.length in
    omega (
      arith,
      line_long (109 ∷ 97 ∷ 112 ∷ []) (i ∷ row.start.0 ∷ end ∷ row.n ∷ []),
      decimal_short i 4 (omega arith) (omega arith),
      ten_digits row.start.0 (omega (arith, word_below s 4 bytes, g.start)),
      ten_digits end (omega arith),
      decimal_short row.n 3 (omega arith) (omega (arith, g.few)),
    )

-- `refused`, at most 4 digits of its number, a refusal: 7 + 2 + 4 + 2 + 1
refused_short : (i : ℕ) (why : Reason) → i < 10000 → length (refused_line i why) ≤ 16
refused_short i why h =
    omega (
      arith,
      line_long (114 ∷ 101 ∷ 102 ∷ 117 ∷ 115 ∷ 101 ∷ 100 ∷ []) (i ∷ number_of why ∷ []),
      decimal_short i 4 (omega arith) (omega arith),
      decimal_short (number_of why) 2 (omega arith) (omega (arith, number_short why)),
    )

-- each MAP takes 24 bytes or more
lines_short : (k i : ℕ) (s : List ℕ) → Bytes s → 24 * i + length s ≤ 65536 → length (lines_from i (bodies_from k s)) ≤ 16 + 35 * (length s / 24)
unfolding bodies_from lines_from
lines_short zero i s bytes h = omega arith
lines_short (suc k) i s bytes h =
    at_most (λ (bs : List Body). length (lines_from i bs)) (16 + 35 * (length s / 24)) (eqb (length s) 0) _ _
    (omega arith)
    (go (next_of s) refl (λ t more fits. lines_short k (i + 1) t more fits))
  where
    go : (b : Body) → next_of s ≡ b → ((t : List ℕ) → Bytes t → 24 * (i + 1) + length t ≤ 65536 → length (lines_from (i + 1) (bodies_from k t)) ≤ 16 + 35 * (length t / 24)) → length (lines_from i (and_more b (λ n. bodies_from k (drop n s)))) ≤ 16 + 35 * (length s / 24)
    go (Ok row) e more =
        let g = next_good s row e in
        let size = size_of row.n in
        let left = drop size s in
        let long : length left ≡ length s - size = length-drop size s in
        let rest = more left (λ j. rw (get_or-drop size s j 0) (bytes (size + j))) (omega (arith, g.some, g.inside)) in
        omega (
          arith,
          length-append (map_line i row) (lines_from (i + 1) (bodies_from k left)),
          map_short s row i bytes g (omega arith),
          g.some,
          g.inside,
        )
    go (Err why) e more = omega (arith, refused_short i why (omega arith))

pub text_short : (s : List ℕ) → Bytes s → length s ≤ 65536 → length (text_of s) ≤ enough (length s)
unfolding text_of
text_short s bytes h =
    omega (
      arith,
      length-append (lines_from 0 (bodies_of s)) (span_line (span_of 32 (maps_in (bodies_of s)))),
      lines_short (length s) 0 s bytes (omega arith),
      span_short (maps_in (bodies_of s)),
    )

-- so many lent bytes are always enough
pub report_short : (s : List ℕ) → Bytes s → length (report_of s) ≤ enough (length s)
unfolding report_of
report_short s bytes = go (ltb 65536 (length s)) refl
  where
    go : (b : Bool) → ltb 65536 (length s) ≡ b → length (cond b refused_input (text_of s)) ≤ enough (length s)
    go true e = omega arith
    go false e = text_short s bytes (ltb-false 65536 (length s) e)

-- .. and `ROOM` for an input of any length
pub room_for_all : (n : ℕ) → enough n ≤ 95593
room_for_all n = omega (arith, min-le_left 65536 n)
