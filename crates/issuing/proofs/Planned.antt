-- What the elements of a plan say: lengths, intervals, grants and pendings.
use mathlib.Core.Path.{◌≡◌, refl, ◌∙◌, ap}
use mathlib.Core.Bool.{Bool, true, false, cond, ◌&&◌}
use mathlib.Core.List.{List, [], ◌∷◌, ◌++◌, append-nil}
use Prim.Native.Nat.{ℕ, suc, ◌+◌, ◌-◌}
use native.Mathlib.Omega.{arith}
use native.Mathlib.Nat.{sub-zero}
use lib.Dec.{leb, eqb}
use lib.ListN.{length, length-append}
use Rattle.rules.specs.declared.element.Element.{Element}
use Rattle.message.specs.Lists.{keep, is_empty, gather}
use Rattle.rules.specs.Rules.{granting}
use Rattle.message.specs.Map.{Interval, first_offset, intervals, map_length, after_null, grants_to, pendings_to}
use Rattle.headend.specs.declared.record.Request.{Request}
use Rattle.issuing.specs.Plan.{total, use_of, grants, pendings, elements_of}

-- a grant's use is 5 or 6, and so no other
pub use_not_7 : (b : Bool) → eqb (cond b 5 6) 7 ≡ false
use_not_7 true = refl
use_not_7 false = refl

pub use_grants : (b : Bool) → granting (cond b 5 6) ≡ true
use_grants true = refl
use_grants false = refl

abbrev pub null : ℕ → Element
null n = record { sid = 0; iuc = 7; offset = n }

-- the intervals of grants, one after the other from an offset on
unfoldable pub grant_intervals : ℕ → ℕ → List Request → List Interval
grant_intervals short offset [] = []
grant_intervals short offset (q ∷ qs) = record { sid = q.sid; iuc = use_of short q; first = offset; length = q.size } ∷ grant_intervals short (offset + q.size) qs

pub length_grants : (short offset : ℕ) (qs : List Request) → length (grants short offset qs) ≡ length qs
unfolding grants
length_grants short offset [] = refl
length_grants short offset (q ∷ qs) = ap suc (length_grants short (offset + q.size) qs)

pub length_pendings : (offset : ℕ) (qs : List Request) → length (pendings offset qs) ≡ length qs
unfolding pendings
length_pendings offset [] = refl
length_pendings offset (q ∷ qs) = ap suc (length_pendings offset qs)

module _ (short n : ℕ) (rest : List Element) where
  length_of_lem : (o : ℕ) (gs : List Request) → map_length (grants short o gs ++ (null n ∷ rest)) ≡ n
  unfolding map_length grants
  length_of_lem o [] = refl
  length_of_lem o (q ∷ qs) = rw (use_not_7 (leb q.size short)) (length_of_lem (o + q.size) qs)

  rest_of : (o : ℕ) (gs : List Request) → after_null (grants short o gs ++ (null n ∷ rest)) ≡ rest
  unfolding after_null grants
  rest_of o [] = refl
  rest_of o (q ∷ qs) = rw (use_not_7 (leb q.size short)) (rest_of (o + q.size) qs)

  first_of : (o : ℕ) (gs : List Request) → n ≡ o + total gs → first_offset (grants short o gs ++ (null n ∷ rest)) ≡ o
  unfolding grants total
  first_of o [] e = omega arith
  first_of o (q ∷ qs) e = refl

  intervals_of : (o : ℕ) (gs : List Request) → n ≡ o + total gs → intervals (grants short o gs ++ (null n ∷ rest)) ≡ grant_intervals short o gs
  unfolding intervals grants total grant_intervals
  intervals_of o [] e = refl
  intervals_of o (q ∷ qs) e =
      let f : n ≡ o + q.size + total qs = omega arith in
      let z : first_offset (grants short (o + q.size) qs ++ (null n ∷ rest)) - o ≡ q.size = rw (first_of (o + q.size) qs f) (omega arith) in
      rw (use_not_7 (leb q.size short), z, intervals_of (o + q.size) qs f) refl

module _ (short c : ℕ) (gs ps : List Request) where
  pub plan_size : length (elements_of short c gs ps) ≡ length gs + length ps + 2
  unfolding elements_of
  plan_size =
      let end : List Element = null (c + total gs) ∷ pendings (c + total gs) ps in
      omega (arith, length-append (grants short c gs) (null (c + total gs) ∷ pendings (c + total gs) ps), length_grants short c gs, length_pendings (c + total gs) ps)

  -- "The Null's offset is the map length"
  pub plan_length : map_length (elements_of short c gs ps) ≡ c + total gs
  unfolding elements_of map_length
  plan_length = length_of_lem short (c + total gs) (pendings (c + total gs) ps) c gs

  -- the broadcast Request of c, then the grants
  pub plan_intervals : intervals (elements_of short c gs ps) ≡ record { sid = 0x3FFF; iuc = 1; first = 0; length = c } ∷ grant_intervals short c gs
  unfolding elements_of intervals
  plan_intervals = rw (first_of short (c + total gs) (pendings (c + total gs) ps) c gs refl, intervals_of short (c + total gs) (pendings (c + total gs) ps) c gs refl, sub-zero c) refl

  pub plan_rest : after_null (elements_of short c gs ps) ≡ pendings (c + total gs) ps
  unfolding elements_of after_null
  plan_rest = rest_of short (c + total gs) (pendings (c + total gs) ps) c gs

-- those of a SID
abbrev pub of_sid : ℕ → List Request → List Request
of_sid sid qs = keep (λ q. eqb q.sid sid) qs

-- a SID has a grant exactly where it has a request granted, and a pending likewise
module _ (sid : ℕ) where
  grants_none : (short o : ℕ) (gs : List Request) → is_empty (keep (λ k. granting k.iuc && eqb k.sid sid) (grant_intervals short o gs)) ≡ is_empty (of_sid sid gs)
  unfolding grant_intervals
  grants_none short o [] = refl
  grants_none short o (q ∷ qs) = rw (use_grants (leb q.size short)) (go (eqb q.sid sid) (grants_none short (o + q.size) qs))
    where
      go : (b : Bool) → is_empty (keep (λ k. granting k.iuc && eqb k.sid sid) (grant_intervals short (o + q.size) qs)) ≡ is_empty (of_sid sid qs) →
          is_empty (cond b (record { sid = q.sid; iuc = use_of short q; first = o; length = q.size } ∷ keep (λ k. granting k.iuc && eqb k.sid sid) (grant_intervals short (o + q.size) qs)) (keep (λ k. granting k.iuc && eqb k.sid sid) (grant_intervals short (o + q.size) qs)))
          ≡ is_empty (cond b (q ∷ of_sid sid qs) (of_sid sid qs))
      go true e = refl
      go false e = e

  pendings_none : (o : ℕ) (ps : List Request) → is_empty (keep (λ e. granting e.iuc && eqb e.sid sid) (pendings o ps)) ≡ is_empty (of_sid sid ps)
  unfolding pendings
  pendings_none o [] = refl
  pendings_none o (q ∷ qs) = go (eqb q.sid sid) (pendings_none o qs)
    where
      go : (b : Bool) → is_empty (keep (λ e. granting e.iuc && eqb e.sid sid) (pendings o qs)) ≡ is_empty (of_sid sid qs) →
          is_empty (cond b (record { sid = q.sid; iuc = 5; offset = o } ∷ keep (λ e. granting e.iuc && eqb e.sid sid) (pendings o qs)) (keep (λ e. granting e.iuc && eqb e.sid sid) (pendings o qs)))
          ≡ is_empty (cond b (q ∷ of_sid sid qs) (of_sid sid qs))
      go true e = refl
      go false e = e

  pub plan_grants : (short c : ℕ) (gs ps : List Request) → is_empty (grants_to sid (elements_of short c gs ps)) ≡ is_empty (of_sid sid gs)
  unfolding grants_to
  plan_grants short c gs ps = rw (plan_intervals short c gs ps) (grants_none short c gs)

  pub plan_pendings : (short c : ℕ) (gs ps : List Request) → is_empty (pendings_to sid (elements_of short c gs ps)) ≡ is_empty (of_sid sid ps)
  unfolding pendings_to
  plan_pendings short c gs ps = rw (plan_rest short c gs ps) (pendings_none (c + total gs) ps)

-- whatever is gathered from intervals that are no grants comes from the broadcast Request alone: all opportunities lie in it
module _ {B : Type 0} (f : Interval → List B) (none : (k : Interval) → granting k.iuc ≡ true → f k ≡ []) where
  gather_grants : (short o : ℕ) (gs : List Request) → gather f (grant_intervals short o gs) ≡ []
  unfolding grant_intervals
  gather_grants short o [] = refl
  gather_grants short o (q ∷ qs) = rw (none (record { sid = q.sid; iuc = use_of short q; first = o; length = q.size }) (use_grants (leb q.size short)), gather_grants short (o + q.size) qs) refl

  pub plan_gathered : (short c : ℕ) (gs ps : List Request) → gather f (intervals (elements_of short c gs ps)) ≡ f (record { sid = 0x3FFF; iuc = 1; first = 0; length = c })
  plan_gathered short c gs ps = rw (plan_intervals short c gs ps) (ap (λ (l : List B). f (record { sid = 0x3FFF; iuc = 1; first = 0; length = c }) ++ l) (gather_grants short c gs) ∙ append-nil (f (record { sid = 0x3FFF; iuc = 1; first = 0; length = c })))
