-- The ways through the functions of the backoff: one law each, about the definitions only.
use mathlib.Core.Path.{◌≡◌, refl, sym, ap, ◌∙◌}
use mathlib.Core.Bool.{Bool, true, false, cond}
use Prim.Native.Nat.{ℕ, ◌+◌, ◌*◌, ◌%◌, ◌^◌, ◌≤◌, ◌<◌}
use native.Mathlib.Nat.{mod-eq_of_lt, one-mul}
use lib.Pow.{pow_mono, pow_pos}
use native.Mathlib.Omega.{arith}
use borrow.Author.Tests.{lt-ltb, le-ltb, not-true}
use Rattle.slots.specs.declared.time.MiniSlot.{MiniSlot}
use Rattle.slots.specs.Time.{earlier}
use Rattle.rules.specs.declared.fields.Fields.{Fields}
use Rattle.rules.proofs.Ways.{said, said_not}
use Rattle.station.specs.declared.record.Phase.{Phase}
use Rattle.station.specs.declared.record.Phase.TheVariants.{Idle, Wanting, Deferring, Waiting}
use Rattle.station.proofs.Ways.{NotWaiting, NotWanting, not_waiting}
use Rattle.backoff.specs.Backoffs.{first_exponent, next_exponent, drawn}
use Rattle.backoff.specs.Steps.{lost, acknowledged, deferred}

-- the number of opportunities to pass, worked out in 32 bits
power_fits : (exponent : ℕ) → exponent ≤ 15 → 1 * 2 ^ exponent % 4294967296 ≡ 2 ^ exponent
power_fits exponent h = let most : 2 ^ exponent ≤ 2 ^ 15 = pow_mono h in rw (one-mul (2 ^ exponent)) (mod-eq_of_lt (omega arith))

pub power_some : (exponent : ℕ) → exponent ≤ 15 → 0 < 1 * 2 ^ exponent % 4294967296
power_some exponent h = rw (power_fits exponent h) (pow_pos exponent)

module _ (draw exponent : ℕ) where
  pub drawn_within : exponent ≤ 15 → draw % (1 * 2 ^ exponent % 4294967296) ≡ drawn draw exponent
  drawn_within h = rw (power_fits exponent h) refl

  pub drawn_beyond : draw < 65536 → 15 < exponent → draw ≡ drawn draw exponent
  drawn_beyond d h = let least : 2 ^ 16 ≤ 2 ^ exponent = pow_mono h in sym (mod-eq_of_lt (omega arith))

module _ (f : Fields) (draw exponent retries size : ℕ) where
  pub lost_dropped : 16 ≤ retries → Idle ≡ lost f draw exponent retries size
  unfolding lost
  lost_dropped h = rw (lt-ltb 16 (retries + 1) (omega arith)) refl

  pub lost_again : (next left : ℕ) → retries < 16 → next ≡ next_exponent f exponent → left ≡ drawn draw next → Deferring next left (retries + 1) size ≡ lost f draw exponent retries size
  unfolding lost
  lost_again next left h n l = rw (le-ltb 16 (retries + 1) (omega arith), l, n) refl

module _ (w : ℕ) (b : Bool) (f : Fields) (draw : ℕ) (p : Phase) where
  pub acknowledged_other : NotWaiting p → p ≡ acknowledged w b f draw p
  unfolding acknowledged
  acknowledged_other h = not_waiting (λ q. q ≡ acknowledged w b f draw q) refl (λ size. refl) (λ exponent left retries size. refl) p h

  module _ (exponent retries : ℕ) (time : MiniSlot) (size : ℕ) (is : p ≡ Waiting exponent retries time size) where
    pub acknowledged_pending : b ≡ true → Waiting exponent retries time size ≡ acknowledged w b f draw p
    unfolding acknowledged
    acknowledged_pending h = rw (is, h) refl

    -- by the one test of step 2: with another test these laws are of another type
    abbrev told : Bool → Phase
    told late = cond late (lost f draw exponent retries size) (Waiting exponent retries time size)

    pub acknowledged_lost : (q : Phase) → b ≡ false → earlier w time.0 f.ack.0 ≡ true → q ≡ lost f draw exponent retries size → q ≡ acknowledged w b f draw p
    unfolding acknowledged
    acknowledged_lost q h e l = rw (is, h) (l ∙ ap told (sym e))

    pub acknowledged_waiting : b ≡ false → earlier w time.0 f.ack.0 ≡ false → Waiting exponent retries time size ≡ acknowledged w b f draw p
    unfolding acknowledged
    acknowledged_waiting h e = rw (is, h) (ap told (sym e))

module _ (f : Fields) (draw : ℕ) (p : Phase) where
  pub deferred_wanting : (size left : ℕ) → p ≡ Wanting size → left ≡ drawn draw (first_exponent f) → Deferring (first_exponent f) left 0 size ≡ deferred f draw p
  unfolding deferred
  deferred_wanting size left e l = rw (e, l) refl

  pub deferred_other : NotWanting p → p ≡ deferred f draw p
  unfolding deferred
  deferred_other h = go p h
    where
      go : (q : Phase) → NotWanting q → q ≡ deferred f draw q
      go Idle h = refl
      go (Wanting size) h = absurd (h size refl)
      go (Deferring exponent left retries size) h = refl
      go (Waiting exponent retries time size) h = refl

-- both steps
pub ready : (w : ℕ) (b : Bool) (f : Fields) (draw : ℕ) (p q r : Phase) → q ≡ acknowledged w b f draw p → r ≡ deferred f draw q → r ≡ deferred f draw (acknowledged w b f draw p)
ready w b f draw p q r a d = rw (← a) d

pub ruleset draw_ways = (power_some, drawn_within, drawn_beyond)

pub ruleset step_ways = (said, said_not, not-true, lost_dropped, lost_again, acknowledged_other, acknowledged_pending, acknowledged_lost, acknowledged_waiting, deferred_wanting, deferred_other)
