-- Document 01, "Time": the span of some MAPs, given by their starts and lengths. Over a width of w bits.
use Rattle.std.specs.Prelude.{ℕ, ◌%◌, ◌^◌, Bool, true, false, cond, ◌&&◌, List, [], ◌∷◌, nat_le, nat_lt, Option, Some, None}
use Rattle.slots.specs.declared.span.Span.{Span}
use Rattle.slots.specs.declared.span.Span.TheVariants.{Nothing, Lost, Over}
use Rattle.slots.specs.Time.{ahead, half, moved_on}

-- a MAP, as far as the span goes
pub record Described : Type 0 where
  pub start : ℕ
  pub length : ℕ

module _ (w : ℕ) where
  abbrev pub end_of : Described → ℕ
  end_of m = moved_on w m.start m.length

  -- x "lies less than 2^(w-1) ahead" of e
  unfoldable pub within : ℕ → ℕ → Bool
  within e x = nat_lt (ahead w e x) (half w)

  -- "every start and every end lies less than 2^(w-1) ahead" of e
  unfoldable pub qualifies : List Described → ℕ → Bool
  qualifies [] e = true
  qualifies (m ∷ ms) e = within e m.start && (within e (end_of m) && qualifies ms e)

  -- of two times, the one further ahead of e
  unfoldable pub further : ℕ → ℕ → ℕ → ℕ
  further e x y = cond (nat_lt (ahead w e x) (ahead w e y)) y x

  -- "the end furthest ahead of E"
  unfoldable pub furthest : List Described → ℕ → ℕ
  furthest [] e = e
  furthest (m ∷ ms) e = further e (end_of m) (furthest ms e)

  abbrev pub over : ℕ → ℕ → Span
  over e l = Over (record { 0 = e }) (record { 0 = l })

  -- the first of these MAPs whose start qualifies for all, and the end furthest ahead of it; "if no start qualifies .. there is no span"
  unfoldable pub span_from : List Described → List Described → Span
  span_from all [] = Lost
  span_from all (m ∷ ms) =
      let e = m.start % 2 ^ w in
      cond (qualifies all e) (over e (furthest all e)) (span_from all ms)

  -- the span; Nothing where "there are no MAPs"
  unfoldable pub span_of : List Described → Span
  span_of [] = Nothing
  span_of (m ∷ ms) = span_from (m ∷ ms) (m ∷ ms)

  abbrev pub both : ℕ → ℕ → ℕ → Bool
  both e x y = within e x && within e y

  -- a span from e to l with a MAP from s to t more: from e still, or from s now, or none
  unfoldable pub widened : ℕ → ℕ → ℕ → ℕ → Span
  widened e l s t =
      cond (both e s t) (over e (further e l t))
      (cond (both s e l) (over (s % 2 ^ w) (further s l t)) Lost)

  -- a span with one MAP more, from the span alone
  unfoldable pub added : Span → ℕ → ℕ → Span
  added Nothing s n = over (s % 2 ^ w) (moved_on w s n)
  added Lost s n = Lost
  added (Over e l) s n = widened e.0 l.0 s (moved_on w s n)

  -- .. and with several, one by one
  unfoldable pub added_all : Span → List Described → Span
  added_all p [] = p
  added_all p (m ∷ ms) = added_all (added p m.start m.length) ms

-- a MAP is at most 4,096 mini-slots long; what is longer is not taken, and the span stays as it was
abbrev pub added_to : ℕ → Span → ℕ → ℕ → Option Span
added_to w p s n = cond (nat_le n 4096) (Some (added w p s n)) None
