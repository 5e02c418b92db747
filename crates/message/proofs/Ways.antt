-- The ways through the reader's functions: one law each, about the definitions only.
use mathlib.Core.Path.{◌≡◌, refl, ◌∙◌}
use mathlib.Core.Bool.{Bool, true, false, cond, not, ◌||◌}
use mathlib.Core.List.{List}
use Prim.Native.Nat.{ℕ, zero, suc, ◌+◌, ◌-◌, ◌*◌, ◌/◌, ◌≤◌, ◌<◌}
use native.Mathlib.Omega.{arith}
use lib.Dec.{ltb, eqb}
use lib.ListN.{length, get_or}
use borrow.Author.Tests.{lt-ltb, le-ltb, le-leb, lt-leb, eq-eqb, ne_eqb, not-false, eqb-true, eqb-false, ltb-false}
use native.Mathlib.Nat.{sub-zero}
pub use Rattle.slots.proofs.Spans.{said, said_not}
use Rattle.rules.proofs.Ways.{fault_closed, advanced_after}
use Rattle.rules.specs.declared.element.Element.{Element}
use Rattle.rules.specs.declared.rules.Progress.{Progress}
use Rattle.std.specs.Prelude.{Result, Ok, Err}
use Rattle.rules.specs.declared.rules.Whole.{Whole}
use Rattle.rules.specs.declared.refusal.Reason.{Reason}
use Rattle.rules.specs.declared.refusal.Reason.TheVariants.{Short, Count, Length, Backoff}
use Rattle.message.specs.Element.{element_in, element_at}
use Rattle.rules.specs.Backoffs.{bad_backoffs}
use Rattle.message.specs.Fields.{fields_of, count_of}
use Rattle.rules.specs.Refusals.{refusal, unless}
use Rattle.rules.specs.Rules.{fault_of, nothing_yet, advanced, ended_at, walked, standing_fault}
use Rattle.message.specs.Scan.{checked_by}
use Rattle.message.specs.Lists.{listed}
use Rattle.message.specs.Reading.{header_fault, reading_of, read_of}
use Rattle.rules.specs.declared.refusal.Refusal.{Refusal}

module _ (s : List ℕ) where
  pub header_1 : length s < 16 → Err Short ≡ header_fault s
  unfolding header_fault
  header_1 h = simp (lt-ltb (length s) 16 h)

  module _ (long : 16 ≤ length s) (n : ℕ) (is : n ≡ get_or s 2 0) where
    pub header_none : n ≡ 0 → Err Count ≡ header_fault s
    unfolding header_fault
    header_none h = simp (le-ltb (length s) 16 long, eq-eqb (get_or s 2 0) 0 (omega arith))

    module _ (some : n ≡ 0 → ⊥) where
      some' : eqb (get_or s 2 0) 0 ≡ false
      some' = ne_eqb (get_or s 2 0) 0 (λ e. some (is ∙ e))

      pub header_many : 240 < n → Err Count ≡ header_fault s
      unfolding header_fault
      header_many h = simp (le-ltb (length s) 16 long, some', lt-ltb 240 (get_or s 2 0) (omega arith))

      module _ (few : n ≤ 240) where
        few' : ltb 240 (get_or s 2 0) ≡ false
        few' = le-ltb 240 (get_or s 2 0) (omega arith)

        pub header_3 : (length s ≡ 16 + 4 * n → ⊥) → Err Length ≡ header_fault s
        unfolding header_fault
        header_3 h = simp (le-ltb (length s) 16 long, some', few', ne_eqb (length s) (16 + 4 * get_or s 2 0) (λ e. h (omega arith)))

        module _ (fits : length s ≡ 16 + 4 * n) where
          fits' : eqb (length s) (16 + 4 * get_or s 2 0) ≡ true
          fits' = eq-eqb (length s) (16 + 4 * get_or s 2 0) (omega arith)

          pub header_4 : bad_backoffs (fields_of s) ≡ true → Err Backoff ≡ header_fault s
          unfolding header_fault
          header_4 h = rw (le-ltb (length s) 16 long, some', few', fits', h) refl

          pub header_good : bad_backoffs (fields_of s) ≡ false → Ok tt ≡ header_fault s
          unfolding header_fault
          header_good h = rw (le-ltb (length s) 16 long, some', few', fits', h) refl

module _ (s : List ℕ) (i : ℕ) where
  pub beyond_short : length s < 20 → record { sid = 0; iuc = 0; offset = 0 } ≡ element_at s i
  unfolding element_at
  beyond_short h = simp (lt-leb (20 + 4 * i) (length s) (omega arith))

  pub beyond : 20 ≤ length s → (length s - 20) / 4 < i → record { sid = 0; iuc = 0; offset = 0 } ≡ element_at s i
  unfolding element_at
  beyond l h = simp (lt-leb (20 + 4 * i) (length s) (omega arith))

  pub inside : 20 ≤ length s → i ≤ (length s - 20) / 4 → 20 + 4 * i ≤ length s
  inside l h = omega arith

  pub element_there : 20 + 4 * i ≤ length s → element_at s i ≡ element_in s i
  unfolding element_at
  element_there h = simp (le-leb (20 + 4 * i) (length s) h)

-- a cascade of refusals that ends well has passed its first test
pub passed : (b : Bool) (why : Reason) (x : Result Unit Reason) → cond b (Err why) x ≡ Ok tt → (b ≡ false) × (x ≡ Ok tt)
passed true why x e = absurd (let z : ◌≡◌ {A = ℕ} 0 1 = cc in omega arith)
passed false why x e = (refl, e)

pub or_none : (a b : Bool) → (a || b) ≡ false → (a ≡ false) × (b ≡ false)
or_none true b e = let z : ◌≡◌ {A = ℕ} 0 1 = cc in absurd (omega arith)
or_none false b e = (refl, e)

-- what a header without a fault is
pub record Sound (s : List ℕ) : Type 0 where
  pub some : 1 ≤ count_of s
  pub few : count_of s ≤ 240
  pub fits : length s ≡ 16 + 4 * count_of s
  pub backoffs : bad_backoffs (fields_of s) ≡ false

pub header_sound : (s : List ℕ) → header_fault s ≡ Ok tt → Sound s
unfolding header_fault
header_sound s e =
    let one = passed (ltb (length s) 16) Short _ e in
    let two = passed (eqb (count_of s) 0 || ltb 240 (count_of s)) Count _ one.1 in
    let three = passed (not (eqb (length s) (16 + 4 * count_of s))) Length _ two.1 in
    let four = passed (bad_backoffs (fields_of s)) Backoff (Ok tt) three.1 in
    let counts = or_none (eqb (count_of s) 0) (ltb 240 (count_of s)) two.0 in
    record {
      some = omega (arith, pos (count_of s) (eqb-false (count_of s) 0 counts.0));
      few = ltb-false 240 (count_of s) counts.1;
      fits = eqb-true (length s) (16 + 4 * count_of s) (not-false _ three.0);
      backoffs = four.0;
    }
  where
    pos : (n : ℕ) → (n ≡ 0 → ⊥) → 1 ≤ n
    pos zero h = absurd (h refl)
    pos (suc n) h = omega arith

-- what is left of a walk gives the answer of the whole; el says what stands at each number
module _ (el : ℕ → Element) (n : ℕ) (whole : Result Whole Refusal) (i : ℕ) (p : Progress) where
  pub walk_begins : i ≡ 0 → p ≡ nothing_yet → walked i p (listed el i (n - i)) ≡ walked 0 nothing_yet (listed el 0 n)
  walk_begins h k = rw (h, k, sub-zero n) refl

  pub walk_end : (r : Result Whole Refusal) → i ≤ n → n ≤ i → walked i p (listed el i (n - i)) ≡ whole → r ≡ ended_at n p → r ≡ whole
  unfolding walked listed
  walk_end r h k w e = let none : n - i ≡ 0 = omega arith in let all : i ≡ n = omega arith in e ∙ (rw all at (rw none at w))

  module _ (more : i < n) (left : walked i p (listed el i (n - i)) ≡ whole) (e : Element) (is : e ≡ el i) where
    next : unless (fault_of p e) i (walked (i + 1) (advanced p e i) (listed el (i + 1) (n - (i + 1)))) ≡ whole
    unfolding walked listed
    next = let one : n - i ≡ suc (n - (i + 1)) = omega arith in rw is (rw one at left)

    pub walk_fault : (f : Result Unit Reason) (why : Reason) → f ≡ fault_of p e → f ≡ Err why → Err (refusal why i) ≡ whole
    walk_fault f why h k = rw (← h, k) at next

    pub walk_next : (f : Result Unit Reason) (q : Progress) → f ≡ fault_of p e → f ≡ Ok tt → q ≡ advanced p e i → walked (i + 1) q (listed el (i + 1) (n - (i + 1))) ≡ whole
    walk_next f q h k g = rw (← h, k, ← g) at next

    -- after the Null
    module _ (c : p.closed ≡ true) (g : p.granting ≡ false) (f : Result Unit Reason) (h : f ≡ standing_fault p e) where
      pub rest_fault : (why : Reason) → f ≡ Err why → Err (refusal why i) ≡ whole
      rest_fault why k = walk_fault f why (fault_closed p e f h c g) k

      pub rest_next : f ≡ Ok tt → walked (i + 1) p (listed el (i + 1) (n - (i + 1))) ≡ whole
      rest_next k = walk_next f p (fault_closed p e f h c g) k (advanced_after p e i c)

module _ (s : List ℕ) where
  pub check_refused : (f : Result Unit Reason) (why : Reason) → f ≡ header_fault s → f ≡ Err why → Err (refusal why 0) ≡ checked_by (read_of s)
  unfolding read_of
  check_refused f why h k = rw (← h, k) refl

  module _ (n : ℕ) (w : Result Whole Refusal) (h : header_fault s ≡ Ok tt) (is : n ≡ count_of s) (e : w ≡ walked 0 nothing_yet (listed (element_in s) 0 n)) where
    read_walked : read_of s ≡ reading_of (fields_of s) n w
    unfolding read_of
    read_walked = rw (h, e, is) refl

    pub check_whole : (v : Whole) → w ≡ Ok v → Ok (record { n = n; whole = v }) ≡ checked_by (read_of s)
    check_whole v k = rw (read_walked, k) refl

    pub check_fault : (why : Refusal) → w ≡ Err why → Err why ≡ checked_by (read_of s)
    check_fault why k = rw (read_walked, k) refl

pub ruleset header_ways = (header_1, header_none, header_many, header_3, header_4, header_good, said, said_not)
