-- Two facts about the definitions: no body is left out, and the order of the MAPs does not change the span's line.
use mathlib.Core.Path.{◌≡◌, refl, sym, ap}
use mathlib.Core.Bool.{Bool, true, false, cond}
use mathlib.Core.List.{List, [], ◌∷◌}
use Prim.Native.Nat.{ℕ, zero, suc, ◌≤◌}
use native.Mathlib.Omega.{arith}
use lib.Dec.{eqb}
use lib.ListN.{length, drop, length-drop}
use borrow.Author.Tests.{eq-eqb}
use Rattle.slots.specs.Span.{span_of}
use Rattle.slots.proofs.Spanning.{Same, span_any_order}
use Rattle.std.specs.Prelude.{Ok, Err}
use Rattle.report.specs.Bodies.{Body, size_of, next_of, and_more, bodies_from, bodies_of, maps_in}
use Rattle.report.specs.Text.{span_line}

pub bodies_none : (k : ℕ) (s : List ℕ) → length s ≡ 0 → bodies_from k s ≡ []
unfolding bodies_from
bodies_none zero s h = refl
bodies_none (suc k) s h = rw (eq-eqb (length s) 0 h) refl

bodies_same : (k j : ℕ) (s : List ℕ) → length s ≤ k → length s ≤ j → bodies_from k s ≡ bodies_from j s
unfolding bodies_from
bodies_same zero j s h l = sym (bodies_none j s (omega arith))
bodies_same (suc k) zero s h l = bodies_none (suc k) s (omega arith)
bodies_same (suc k) (suc j) s h l = go (eqb (length s) 0) refl (next_of s) (λ t p q. bodies_same k j t p q)
  where
    go : (t : Bool) → eqb (length s) 0 ≡ t → (b : Body) → ((l : List ℕ) → length l ≤ k → length l ≤ j → bodies_from k l ≡ bodies_from j l) →
        cond t [] (and_more b (λ n. bodies_from k (drop n s))) ≡ cond t [] (and_more b (λ n. bodies_from j (drop n s)))
    go true e b more = refl
    go false e (Err why) more = refl
    go false e (Ok row) more =
        let left = drop (size_of row.n) s in
        let fewer = length-drop (size_of row.n) s in
        ap (λ (bs : List Body). Ok row ∷ bs) (more left (omega arith) (omega arith))

-- as many bodies as there are bytes are all of them
pub bodies_all : (k : ℕ) (s : List ℕ) → length s ≤ k → bodies_from k s ≡ bodies_of s
bodies_all k s h = bodies_same k (length s) s h (omega arith)

pub span_line_any_order : (s t : List ℕ) → Same (maps_in (bodies_of s)) (maps_in (bodies_of t)) → span_line (span_of 32 (maps_in (bodies_of s))) ≡ span_line (span_of 32 (maps_in (bodies_of t)))
span_line_any_order s t same = ap span_line (span_any_order 32 (omega arith) (maps_in (bodies_of s)) (maps_in (bodies_of t)) same)
