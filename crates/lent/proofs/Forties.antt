-- The part of forty records that is lent, and the cells of a row cut in two and joined again.
use mathlib.Core.Path.{◌≡◌, refl, subst}
use Prim.Native.Nat.{ℕ, zero, suc, ◌+◌, ◌-◌, ◌≤◌, ◌<◌}
use native.Mathlib.Omega.{arith}
use mathlib.Core.Bool.{Bool, true, false}
use mathlib.Core.List.{List, [], ◌∷◌, ◌++◌, append-nil}
use lib.Dec.{ltb}
use lib.ListN.{length, take, drop, drop_of_length-le}
use lib.Seq.{take_all}
use borrow.Author.Tests.{lt-ltb, le-ltb, ltb-true, ltb-false}
use Rattle.std.specs.Prelude.{Err}
use Rattle.rules.specs.declared.refusal.Reason.TheVariants.{Size}
use Rattle.station.specs.declared.record.Station.{Station}
use Rattle.lent.specs.Table.{table_fault, answer_of, places_of}
use Rattle.lent.specs.Forty.{window_of, lent_of, forty_after}
use Rattle.lent.specs.declared.forty.Window.{Window}
use seplogic.Ra.Ura.{Ura}
use base.Logic.{ent, sep}
use types.Logic.{Logic, sem}
use types.Kit.{‵, ◌⊛◌, ◌$◌, ◌∵◌, !, qed, move, use1, use2, split, fsplit, fjoin, frame, done}
use types.Kit.{drop as drop'}
use types.SemTy.{SemTy, cells}
use denote.Steps.{nothing}
use denote.Index.{place}

pub window_past : (i c : ℕ) → 40 < i → ◌≡◌ {A = Window} (record { from = 0; to = 40 }) (window_of i c)
unfolding window_of
window_past i c a = simp (lt-ltb 40 i a)

pub window_over : (i c : ℕ) → i ≤ 40 → 40 - i < c → ◌≡◌ {A = Window} (record { from = 0; to = 40 }) (window_of i c)
unfolding window_of
window_over i c a b = simp (le-ltb 40 i a, lt-ltb (40 - i) c b)

pub window_within : (i c : ℕ) → i ≤ 40 → c ≤ 40 - i → ◌≡◌ {A = Window} (record { from = i; to = i + c }) (window_of i c)
unfolding window_of
window_within i c a b = simp (le-ltb 40 i a, le-ltb (40 - i) c b)

pub ruleset windows = (window_past, window_over, window_within)

abbrev Inside : Window → Type 0
Inside w = (w.from ≤ w.to) × (w.to ≤ 40)

pub window_inside : (i c : ℕ) → ((window_of i c).from ≤ (window_of i c).to) × ((window_of i c).to ≤ 40)
window_inside i c = go (ltb 40 i) (ltb (40 - i) c) refl refl
  where
    go : (a b : Bool) → ltb 40 i ≡ a → ltb (40 - i) c ≡ b → Inside (window_of i c)
    go true b e f = subst Inside (window_past i c (ltb-true 40 i e)) (omega arith, omega arith)
    go false true e f = subst Inside (window_over i c (ltb-false 40 i e) (ltb-true (40 - i) c f)) (omega arith, omega arith)
    go false false e f = subst Inside (window_within i c (ltb-false 40 i e) (ltb-false (40 - i) c f)) (omega arith, omega (arith, ltb-false 40 i e, ltb-false (40 - i) c f))

pub inside : (w : Window) (i c : ℕ) → w ≡ window_of i c → (w.from ≤ w.to) × (w.to ≤ 40)
inside w i c e = rw e (window_inside i c)

module _ {M : Type 1} {𝓤 : Ura M} (𝓛 : Logic 𝓤) (T : SemTy) where
  pub cells_cut : (a : ℕ) (xs : List T.rep) (b o : ℕ) → a ≤ length xs
      → ent 𝓤 (sem 𝓛 (cells T xs b o)) (sep 𝓤 (sem 𝓛 (cells T (take a xs) b o)) (sem 𝓛 (cells T (drop a xs) b (place T.size o a))))
  cells_cut zero xs b o l = qed 𝓛 (‵ (cells T xs b o) ∷ []) ∵ nothing ! $ frame ! $ done !
  cells_cut (suc a) [] b o l = absurd (omega (arith, l))
  cells_cut (suc a) (x ∷ xs) b o l =
      qed 𝓛 (‵ (cells T (x ∷ xs) b o) ∷ []) ∵ fsplit ! $ move ! (1 ∷ []) $
      use1 𝓛 (‵ (cells T (take a xs) b (o + T.size)) ⊛ ‵ (cells T (drop a xs) b (place T.size (o + T.size) a))) (cells_cut a xs b (o + T.size) (omega (arith, l))) $ split ! $ move ! (2 ∷ 0 ∷ []) $ fjoin ! $ frame ! $ done !

  pub cells_join : (xs ys : List T.rep) (b o : ℕ)
      → ent 𝓤 (sep 𝓤 (sem 𝓛 (cells T xs b o)) (sem 𝓛 (cells T ys b (place T.size o (length xs))))) (sem 𝓛 (cells T (xs ++ ys) b o))
  cells_join [] ys b o = qed 𝓛 (‵ (cells T [] b o) ∷ ‵ (cells T ys b o) ∷ []) ∵ drop' ! $ done !
  cells_join (x ∷ xs) ys b o =
      qed 𝓛 (‵ (cells T (x ∷ xs) b o) ∷ ‵ (cells T ys b (place T.size (o + T.size) (length xs))) ∷ []) ∵ fsplit ! $ move ! (1 ∷ 2 ∷ []) $
      use2 𝓛 (‵ (cells T (xs ++ ys) b (o + T.size))) (cells_join xs ys b (o + T.size)) $ move ! (1 ∷ 0 ∷ []) $ done !

too_many : (t d p : ℕ) → 32 < t → table_fault t d p ≡ Err Size
unfolding table_fault
too_many t d p a = simp (lt-ltb 32 t a)

-- a part that is not within the forty: 17, and nothing changes
pub forty_refused : (bytes : List ℕ) (present : ℕ) (draws : List ℕ) (ss : List Station) (places : List ℕ) → length ss ≡ 40
    → (answer_of bytes present draws (lent_of (record { from = 0; to = 40 }) ss) places ≡ Err Size) × ((forty_after bytes present draws (record { from = 0; to = 40 }) ss places ≡ ss) × (places_of bytes present draws (lent_of (record { from = 0; to = 40 }) ss) places ≡ places))
forty_refused bytes present draws ss places l =
    let e : take 40 ss ≡ ss = take_all 40 ss (omega (arith, l)) in
    let f : table_fault (length ss) (length draws) (length places) ≡ Err Size = too_many (length ss) (length draws) (length places) (omega (arith, l)) in
    let h : length ss ≤ 40 = omega (arith, l) in
    let g : drop 40 ss ≡ [] = drop_of_length-le ss h in
    (rw (e, f), (rw (e, f, g) (append-nil ss), rw (e, f)))
