-- Document 01's numbers of time and span, computed with the definitions that the contracts cite.
use Rattle.std.proofs.Common.{◌≡◌, ℕ, Bool, true, false, not, ◌&&◌, eqb, [], ◌∷◌, refl}
use Rattle.slots.specs.declared.span.Span.{Span}
use Rattle.slots.specs.declared.span.Span.TheVariants.{Nothing, Lost, Over}
use Rattle.std.specs.Prelude.{Option, Some, None}
use Rattle.slots.specs.declared.time.Timestamp.{Timestamp}
use Rattle.slots.specs.Time.{ahead, earlier}
use Rattle.slots.specs.Begins.{begins_at}
use Rattle.slots.specs.Span.{Described, within, qualifies, further, furthest, span_from, span_of}

abbrev map' : ℕ → ℕ → Described
map' start length = record { start = start; length = length }

abbrev spans : ℕ → ℕ → Span → Bool
spans e l Nothing = false
spans e l Lost = false
spans e l (Over x y) = eqb e x.0 && eqb l y.0

abbrev lost : Span → Bool
lost Nothing = false
lost Lost = true
lost (Over x y) = false

abbrev begins : ℕ → Option Timestamp → Bool
begins t (Some x) = eqb t x.0
begins t None = false

abbrev refused_size : Option Timestamp → Bool
refused_size (Some x) = false
refused_size None = true

unfoldable pub earlier_numbers : Bool
earlier_numbers = earlier 32 4294967290 4 && not (earlier 32 0 2147483648) && not (earlier 32 2147483648 0)

unfoldable pub begins_numbers : Bool
begins_numbers = begins 256000 (begins_at 1000 2) && refused_size (begins_at 1000 0) && refused_size (begins_at 1000 8)

unfoldable pub span_numbers : Bool
span_numbers =
    lost (span_of 32 (map' 0 30 ∷ map' 1431655765 30 ∷ map' 2863311530 30 ∷ []))
    && spans 0 2147483647 (span_of 32 (map' 0 30 ∷ map' 2147483617 30 ∷ []))
    && lost (span_of 32 (map' 0 30 ∷ map' 2147483618 30 ∷ []))
    && spans 4294967290 50 (span_of 32 (map' 4294967290 30 ∷ map' 20 30 ∷ []))
    && spans 4294967290 50 (span_of 32 (map' 20 30 ∷ map' 4294967290 30 ∷ []))

pub numbers : (earlier_numbers && begins_numbers && span_numbers) ≡ true
unfolding earlier_numbers begins_numbers span_numbers ahead earlier begins_at within qualifies further furthest span_from span_of
numbers = refl
