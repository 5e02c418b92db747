-- The part after the Null: its bytes, where it begins, and that its bytes are the elements after the Null.
use mathlib.Core.Path.{◌≡◌, sym, ◌∙◌}
use mathlib.Core.List.{List, []}
use Prim.Native.Nat.{ℕ, ◌+◌, ◌-◌, ◌*◌, min, ◌≤◌}
use native.Mathlib.Omega.{arith}
use lib.ListN.{length, take, drop, length-drop, drop_of_length-le}
use lib.Seq.{take_all, drop-length}
use Rattle.message.specs.declared.reading.Reading.{Reading}
use Rattle.std.specs.Prelude.{Result, Ok, Err}
use Rattle.rules.specs.declared.refusal.Refusal.{Refusal}
use Rattle.message.specs.Element.{element_at}
use Rattle.message.specs.Lists.{listed}
use Rattle.message.specs.Map.{after_null}
use Rattle.message.specs.Reading.{map_of, read_of}
use Rattle.message.specs.After.{after_null_of, start_after, after_null_at, PartAt}
use Rattle.message.proofs.Accepted.{accepted, after_null_lem}

module _ (s : List ℕ) (at : ℕ) where
  pub part_none : length s ≤ at → take (length s - length s) (drop (length s) s) ≡ drop at s
  part_none h = rw (drop-length s, drop_of_length-le s h) (take_all (length s - length s) [] (omega arith))

  pub part_rest : take (length s - at) (drop at s) ≡ drop at s
  part_rest = take_all (length s - at) (drop at s) (omega (arith, length-drop at s))

module _ (s : List ℕ) (v : Result Reading Refusal) (is : v ≡ read_of s) (p : List ℕ) (whole part : ℕ × ℕ) where
  pub part_accepted : (r : Reading) → v ≡ Ok r → (p ≡ drop (20 + 4 * r.null) s) × PartAt (start_after r.null s) whole part → (p ≡ after_null_of s) × PartAt (after_null_at s) whole part
  unfolding after_null_of after_null_at
  part_accepted r e h = rw (← is, e) h

  pub part_refused : (why : Refusal) → v ≡ Err why → (p ≡ drop (length s) s) × PartAt (min (length s) (length s)) whole part → (p ≡ after_null_of s) × PartAt (after_null_at s) whole part
  unfolding after_null_of after_null_at
  part_refused why e h = rw (← is, e) (h.0 ∙ drop-length s, (h.1.0, omega (arith, h.1.1)))

-- one place, and only one, begins so far on
pub one_place : (at : ℕ) (whole part part' : ℕ × ℕ) → PartAt at whole part → PartAt at whole part' → part ≡ part'
one_place at whole part part' p q = λ i. ((p.0 ∙ sym q.0) i, (p.1 ∙ sym q.1) i)

-- the elements after the Null are those of the part
pub part_elements : (s : List ℕ) (r : Reading) → read_of s ≡ Ok r → after_null (map_of s).elements ≡ listed (element_at s) (r.null + 1) (r.n - (r.null + 1))
part_elements s r e = let a = accepted s r e in rw a.elements (after_null_lem (element_at s) r.n r.null r.length a.frame)
