-- The ways through the reading of one body.
use mathlib.Core.Path.{◌≡◌, refl, ◌∙◌}
use mathlib.Core.Logic.{◌⊎◌, inl, inr}
use mathlib.Core.List.{List}
use Prim.Native.Nat.{ℕ, ◌≤◌, ◌<◌}
use lib.ListN.{length, take}
use borrow.Author.Tests.{lt-ltb, le-ltb, eq-eqb, ne_eqb}
use Rattle.rules.specs.declared.refusal.Refusal.{Refusal}
use Rattle.message.specs.declared.reading.Reading.{Reading}
use Rattle.rules.specs.declared.refusal.Reason.TheVariants.{Short, Count, Length}
use Rattle.message.specs.Fields.{count_of}
use Rattle.message.specs.Reading.{read_of}
use Rattle.std.specs.Prelude.{Result, Ok, Err}
use Rattle.report.specs.Bodies.{Body, size_of, body_by, next_of}

module _ (v : Result Reading Refusal) where
  pub by_accepted : (r : Reading) → v ≡ Ok r → Ok (record { start = r.fields.start; length = r.length; n = r.n }) ≡ body_by v
  by_accepted r e = rw e refl

  pub by_refused : (why : Refusal) → v ≡ Err why → Err why.reason ≡ body_by v
  by_refused why e = rw e refl

module _ (s : List ℕ) where
  pub next_short : length s < 16 → Err Short ≡ next_of s
  unfolding next_of
  next_short h = rw (lt-ltb (length s) 16 h) refl

  module _ (long : 16 ≤ length s) (n : ℕ) (is : n ≡ count_of s) where
    pub next_off : (n ≡ 0) ⊎ ((n ≡ 0 → ⊥) × (240 < n)) → Err Count ≡ next_of s
    unfolding next_of
    next_off (inl h) = rw (le-ltb (length s) 16 long, ← is, eq-eqb n 0 h) refl
    next_off (inr (some, h)) = rw (le-ltb (length s) 16 long, ← is, ne_eqb n 0 some, lt-ltb 240 n h) refl

    module _ (some : n ≡ 0 → ⊥) (few : n ≤ 240) where
      pub next_cut : length s < size_of n → Err Length ≡ next_of s
      unfolding next_of
      next_cut h = rw (le-ltb (length s) 16 long, ← is, ne_eqb n 0 some, le-ltb 240 n few, lt-ltb (length s) (size_of n) h) refl

      pub next_read : size_of n ≤ length s → (body : List ℕ) → body ≡ take (size_of n) s → (v : Result Reading Refusal) → v ≡ read_of body → (r : Body) → r ≡ body_by v → r ≡ next_of s
      unfolding next_of
      next_read h body b v p r q = rw (le-ltb (length s) 16 long, ← is, ne_eqb n 0 some, le-ltb 240 n few, le-ltb (length s) (size_of n) h) (q ∙ rw (p, b) refl)

pub ruleset ways = (by_accepted, by_refused, next_short, next_off, next_cut)
