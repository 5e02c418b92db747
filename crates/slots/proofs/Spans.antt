-- The ways through the span's functions: one law each.
use Rattle.std.proofs.Common.{◌≡◌, ℕ, ◌^◌, ◌<◌, ◌≤◌, Bool, true, false, not, sym, refl, ◌∙◌, mod-eq_of_lt, le-ltb, lt-ltb, le-leb}
use Rattle.std.specs.Prelude.{Option, Some, None}
use borrow.Author.Tests.{lt-leb, not-true}
use Rattle.slots.specs.declared.time.MiniSlot.{MiniSlot}
use Rattle.slots.specs.declared.span.Span.{Span}
use Rattle.slots.specs.declared.span.Span.TheVariants.{Nothing, Lost, Over}
use Rattle.slots.specs.Time.{ahead, moved_on}
use Rattle.slots.specs.Span.{both, further, widened, added, added_to}

-- what a call answered, and what the branch showed of the answer
pub said : {r t b : Bool} → r ≡ t → r ≡ b → t ≡ b
said p q = sym p ∙ q

pub said_not : {r t : Bool} → r ≡ t → not r ≡ true → t ≡ false
said_not p q = sym p ∙ not-true _ q

module _ (w e x y p q : ℕ) (hp : p ≡ ahead w e x) (hq : q ≡ ahead w e y) where
  pub further_other : p < q → y ≡ further w e x y
  unfolding further
  further_other h = rw (← hp, ← hq) (simp (lt-ltb p q h))

  pub further_one : q ≤ p → x ≡ further w e x y
  unfolding further
  further_one h = rw (← hp, ← hq) (simp (le-ltb p q h))

module _ (w e l s t : ℕ) where
  pub widened_late : (r : MiniSlot) → both w e s t ≡ true → r.0 ≡ further w e l t → Over (record { 0 = e }) r ≡ widened w e l s t
  unfolding widened
  widened_late r h k = rw (h, ← k) refl

  pub widened_early : (r : MiniSlot) → both w e s t ≡ false → both w s e l ≡ true → s < 2 ^ w → r.0 ≡ further w s l t → Over (record { 0 = s }) r ≡ widened w e l s t
  unfolding widened
  widened_early r h k b f = rw (h, k, mod-eq_of_lt b, ← f) refl

  pub widened_lost : both w e s t ≡ false → both w s e l ≡ false → Lost ≡ widened w e l s t
  unfolding widened
  widened_lost h k = rw (h, k) refl

module _ (w s n : ℕ) where
  pub added_first : (start r : MiniSlot) (p : Span) → start.0 ≡ s → s < 2 ^ w → p ≡ Nothing → r.0 ≡ moved_on w s n → Over start r ≡ added w p s n
  unfolding added
  added_first start r p a b e k = rw (e, ← k, mod-eq_of_lt b, ← a) refl

  pub added_lost : (p : Span) → p ≡ Lost → Lost ≡ added w p s n
  unfolding added
  added_lost p e = rw e refl

  pub added_over : (r p : Span) (e l t : MiniSlot) → p ≡ Over e l → t.0 ≡ moved_on w s n → r ≡ widened w e.0 l.0 s t.0 → r ≡ added w p s n
  unfolding added
  added_over r p e l t h k f = rw h (rw k at f)

  pub added_taken : (p r : Span) → n ≤ 4096 → r ≡ added w p s n → Some r ≡ added_to w p s n
  added_taken p r h k = rw (le-leb n 4096 h, k) refl

  pub added_refused : (p : Span) → 4096 < n → None ≡ added_to w p s n
  added_refused p h = rw (lt-leb n 4096 h) refl

pub ruleset ways = (said, said_not, further_other, further_one, widened_late, widened_early, widened_lost, added_first, added_lost, added_over, added_taken, added_refused)
