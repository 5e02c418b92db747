-- The loop of `hear_table`, as a function on lists: what k more turns from the place i make of the records and of the places; and that as many turns as there are records, from 0, make what the contract says.
use mathlib.Core.Path.{◌≡◌, refl, sym, ◌∙◌, ap}
use Prim.Native.Nat.{ℕ, zero, suc, ◌+◌, ◌-◌, ◌≤◌, ◌<◌}
use native.Mathlib.Numerals.{add-one}
use native.Mathlib.Omega.{arith}
use mathlib.Core.List.{List, ◌++◌, append-nil}
use lib.Dec.{ltb}
use lib.ListN.{length, get_or, set, take, drop, length-set, drop_of_length-le, take-append-drop}
use lib.Seq.{take_all, take-suc-set, drop-set-lt, drop-cons, append_snoc}
use borrow.Author.Tests.{lt-ltb, le-ltb, ltb-false}
use Rattle.station.specs.Offering.{fresh}
use Rattle.station.specs.declared.record.Station.{Station}
use Rattle.hearing.specs.declared.answer.Hearing.{Hearing}
use Rattle.lent.specs.Table.{table_fault, number_in, placed, placed_of, records_after, places_after, table_of, places_of, HearsTable}
use Rattle.std.specs.Prelude.{Result, Ok, Err}
use Rattle.rules.specs.declared.refusal.Reason.{Reason}
use Rattle.rules.specs.Refusals.{changed}
use Rattle.rules.specs.declared.refusal.Reason.TheVariants.{Size}
use Rattle.message.proofs.Ways.{passed}
use Rattle.lent.specs.declared.table.Placed.{Placed}

-- `table_fault`: one law for each way through
module _ (t d p : ℕ) where
  pub fault_over : 32 < t → Err Size ≡ table_fault t d p
  unfolding table_fault
  fault_over a = simp (lt-ltb 32 t a)

  pub fault_draws : t ≤ 32 → d < t → Err Size ≡ table_fault t d p
  unfolding table_fault
  fault_draws a b = simp (le-ltb 32 t a, lt-ltb d t b)

  pub fault_places : t ≤ 32 → t ≤ d → p < t → Err Size ≡ table_fault t d p
  unfolding table_fault
  fault_places a b c = simp (le-ltb 32 t a, le-ltb d t b, lt-ltb p t c)

  pub fault_none : t ≤ 32 → t ≤ d → t ≤ p → Ok tt ≡ table_fault t d p
  unfolding table_fault
  fault_none a b c = simp (le-ltb 32 t a, le-ltb d t b, le-ltb p t c)

  -- a table that is worked has a draw and a place for each record
  pub fault_fits : table_fault t d p ≡ Ok tt → (t ≤ d) × (t ≤ p)
  unfolding table_fault
  fault_fits e =
      let one = passed (ltb 32 t) Size _ e in
      let two = passed (ltb d t) Size _ one.1 in
      let three = passed (ltb p t) Size (Ok tt) two.1 in
      (ltb-false d t two.0, ltb-false p t three.0)

pub ruleset fitting = (fault_over, fault_draws, fault_places, fault_none)

-- `hear_at`
pub as_placed : {h h' : Hearing} {n : ℕ} → h ≡ h' → n ≡ number_in h.answer → ◌≡◌ {A = Placed} (record { station = h.station; number = n }) (placed h')
as_placed {h} {h'} {n} e f = (λ i. record { station = h.station; number = f i }) ∙ ap placed e

-- what stands past the table's end
abbrev pub none : Station
none = fresh 0 0 0 0

module _ (bytes : List ℕ) (present : ℕ) (draws : List ℕ) where
  -- the hearing at the place i
  abbrev pub placed_at : List Station → ℕ → Placed
  placed_at xs i = placed_of (get_or xs i none) bytes present (get_or draws i 0)

  abbrev pub go_s : ℕ → ℕ → List Station → List Station
  go_s zero i xs = xs
  go_s (suc k) i xs = go_s k (i + 1) (set xs i (placed_at xs i).station)

  abbrev pub go_p : ℕ → ℕ → List Station → List ℕ → List ℕ
  go_p zero i xs zs = zs
  go_p (suc k) i xs zs = go_p k (i + 1) (set xs i (placed_at xs i).station) (set zs i (placed_at xs i).number)

  go_s_is : (k i : ℕ) (xs : List Station) → k + i ≡ length xs → length xs ≤ length draws → go_s k i xs ≡ take i xs ++ records_after bytes present (drop i xs) (drop i draws)
  go_s_is zero i xs e l =
      let h : length xs ≤ i = omega arith in
      rw (drop_of_length-le xs h, take_all i xs h, append-nil)
  go_s_is (suc k) i xs e l =
      let a : i < length xs = omega arith in
      let b : i < length draws = omega arith in
      let v = (placed_at xs i).station in
      go_s_is k (i + 1) (set xs i v) (omega (arith, length-set xs i v)) (omega (arith, length-set xs i v))
      ∙ rw (add-one, take-suc-set xs i v a, drop-set-lt (suc i) xs i v (omega arith), drop-cons xs i none a, drop-cons draws i 0 b, append_snoc)

  go_p_is : (k i : ℕ) (xs : List Station) (zs : List ℕ) → k + i ≡ length xs → length xs ≤ length draws → length xs ≤ length zs
      → go_p k i xs zs ≡ take i zs ++ places_after bytes present (drop i xs) (drop i draws) (drop i zs)
  go_p_is zero i xs zs e l m =
      let h : length xs ≤ i = omega arith in
      rw (drop_of_length-le xs h, take-append-drop)
  go_p_is (suc k) i xs zs e l m =
      let a : i < length xs = omega arith in
      let b : i < length draws = omega arith in
      let c : i < length zs = omega arith in
      let v = (placed_at xs i).station in
      let w = (placed_at xs i).number in
      go_p_is k (i + 1) (set xs i v) (set zs i w) (omega (arith, length-set xs i v)) (omega (arith, length-set xs i v)) (omega (arith, length-set xs i v, length-set zs i w))
      ∙ rw (add-one, take-suc-set zs i w c, drop-set-lt (suc i) xs i v (omega arith), drop-set-lt (suc i) zs i w (omega arith), drop-cons xs i none a, drop-cons draws i 0 b, drop-cons zs i 0 c, append_snoc)

  -- a turn of the loop, from i to i + 1
  pub turn_s : (n i : ℕ) (xs : List Station) (p : Placed) → i < n → p ≡ placed_at xs i → go_s (n - (i + 1)) (i + 1) (set xs i p.station) ≡ go_s (n - i) i xs
  turn_s n i xs p l e = let left : n - i ≡ suc (n - (i + 1)) = omega arith in rw (left, e)

  pub turn_p : (n i : ℕ) (xs : List Station) (zs : List ℕ) (p : Placed) → i < n → p ≡ placed_at xs i → go_p (n - (i + 1)) (i + 1) (set xs i p.station) (set zs i p.number) ≡ go_p (n - i) i xs zs
  turn_p n i xs zs p l e = let left : n - i ≡ suc (n - (i + 1)) = omega arith in rw (left, e)

-- a table that is refused stays as it came
module _ (bytes : List ℕ) (present : ℕ) (draws : List ℕ) (xs : List Station) (zs : List ℕ) (f : Result Unit Reason) (is : f ≡ table_fault (length xs) (length draws) (length zs)) where
  pub table_refused : (why : Reason) → f ≡ Err why → HearsTable bytes present draws xs zs xs zs (Err why)
  table_refused why h = let e = sym is ∙ h in (sym e, (rw e refl, rw e refl))

  -- all turns make what the contract says: as many as there are records, or none
  all_s : (n : ℕ) → n ≡ changed f (length xs) 0 → go_s bytes present draws n 0 xs ≡ table_of bytes present draws xs zs
  all_s n worked = go f refl
    where
      go : (v : Result Unit Reason) → f ≡ v → go_s bytes present draws n 0 xs ≡ table_of bytes present draws xs zs
      go (Ok u) h =
          let fits = fault_fits (length xs) (length draws) (length zs) (sym is ∙ h) in
          rw (worked, h, sym is ∙ h) (go_s_is bytes present draws (length xs) 0 xs (omega arith) fits.0)
      go (Err why) h = rw (worked, h, sym is ∙ h) refl

  all_p : (n : ℕ) → n ≡ changed f (length xs) 0 → go_p bytes present draws n 0 xs zs ≡ places_of bytes present draws xs zs
  all_p n worked = go f refl
    where
      go : (v : Result Unit Reason) → f ≡ v → go_p bytes present draws n 0 xs zs ≡ places_of bytes present draws xs zs
      go (Ok u) h =
          let fits = fault_fits (length xs) (length draws) (length zs) (sym is ∙ h) in
          rw (worked, h, sym is ∙ h) (go_p_is bytes present draws (length xs) 0 xs zs (omega arith) fits.0 fits.1)
      go (Err why) h = rw (worked, h, sym is ∙ h) refl

  -- .. and the loop's end
  module _ (n : ℕ) (worked : n ≡ changed f (length xs) 0) (i : ℕ) (ended : n ≤ i) (now : List Station) where
    none_left : n - i ≡ 0
    none_left = omega arith

    pub ends_s : go_s bytes present draws (n - i) i now ≡ go_s bytes present draws n 0 xs → now ≡ table_of bytes present draws xs zs
    ends_s e = (rw none_left at e) ∙ all_s n worked

    pub ends_p : (at : List ℕ) → go_p bytes present draws (n - i) i now at ≡ go_p bytes present draws n 0 xs zs → at ≡ places_of bytes present draws xs zs
    ends_p at e = (rw none_left at e) ∙ all_p n worked
