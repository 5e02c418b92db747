-- The plan: its grants counted, and its elements stored one after the other.
use mathlib.Core.Path.{◌≡◌, refl, sym, ◌∙◌, ap}
use mathlib.Core.List.{List, [], ◌∷◌, ◌++◌, append_assoc, append-nil}
use Prim.Native.Nat.{ℕ, suc, ◌+◌, ◌-◌, ◌≤◌, ◌<◌}
use native.Mathlib.Omega.{arith}
use native.Mathlib.Numerals.{add-one}
use native.Mathlib.Nat.{zero-add, add-zero, add_assoc}
use lib.ListN.{length, take, drop, get_or, set, length-append, take-append-drop}
use lib.Seq.{drop-cons, drop-length, take_at, set_at, take-length, length-take-le}
use borrow.Author.Tests.{le-leb, lt-leb}
use Rattle.std.proofs.lemmas.List.{take_more}
use Rattle.rules.specs.declared.element.Element.{Element}
use Rattle.headend.specs.declared.record.Request.{Request}
use Rattle.headend.specs.Requests.{spare}
use Rattle.issuing.specs.Plan.{granted, total, use_of, grants, pendings, elements_of}
use Rattle.issuing.proofs.Planned.{null, length_grants, length_pendings}

-- what is left of the count gives the count of the whole
module _ (held : List Request) (room : ℕ) where
  pub record Counted (i left : ℕ) : Type 0 where
    pub less : left ≤ room
    pub count : i + length (granted left (drop i held)) ≡ length (granted room held)
    pub sum : room - left + total (granted left (drop i held)) ≡ total (granted room held)

  pub count_begins : Counted 0 room
  count_begins = record { less = omega arith; count = zero-add _; sum = omega arith }

  module _ (i left : ℕ) (sofar : Counted i left) where
    pub count_next : i < length held → (q : Request) → q ≡ get_or held i spare → q.size ≤ left → Counted (i + 1) (left - q.size)
    unfolding granted total
    count_next more q is fits =
        let cons : drop i held ≡ q ∷ drop (i + 1) held = rw (add-one i, is) (drop-cons held i spare more) in
        let step : granted left (drop i held) ≡ q ∷ granted (left - q.size) (drop (i + 1) held) = rw (cons, le-leb q.size left fits) refl in
        record {
          less = omega (arith, sofar.less);
          count = omega (arith, sofar.count, ap length step);
          sum = omega (arith, sofar.sum, sofar.less, ap total step);
        }

    ends : granted left (drop i held) ≡ [] → (i ≡ length (granted room held)) × (room - left ≡ total (granted room held))
    unfolding total
    ends none = (omega (arith, sofar.count, ap length none), omega (arith, sofar.sum, ap total none))

    pub count_all : length held ≤ i → i ≤ length held → (length held ≡ length (granted room held)) × (room - left ≡ total (granted room held))
    unfolding granted
    count_all a b =
        let all : i ≡ length held = omega arith in
        let it = ends (rw (all, drop-length held) refl) in
        (sym all ∙ it.0, it.1)

    pub count_stops : i < length held → (q : Request) → q ≡ get_or held i spare → left < q.size → (i ≡ length (granted room held)) × (room - left ≡ total (granted room held))
    unfolding granted
    count_stops more q is big = ends (rw (drop-cons held i spare more, ← is, lt-leb q.size left big) refl)

-- one element more after those stored
store : {A : Type 0} (d : A) (done old : List A) (k : ℕ) (x : A) → length done ≡ k → k < length old → set (done ++ drop k old) k x ≡ (done ++ (x ∷ [])) ++ drop (k + 1) old
store {A = A} d done old k x e h =
    let one : suc k ≡ k + 1 = omega arith in
    rw (drop-cons old k d h, one) (set_at done (get_or old k d) (drop (k + 1) old) x k e ∙ sym (append_assoc done (x ∷ []) (drop (k + 1) old)))

spare_element : Element
spare_element = record { sid = 0; iuc = 0; offset = 0 }

total_append : (xs ys : List Request) → total (xs ++ ys) ≡ total xs + total ys
unfolding total
total_append [] ys = sym (zero-add (total ys))
total_append (x ∷ xs) ys = rw (total_append xs ys) (sym (add_assoc x.size (total xs) (total ys)))

grants_append : (short o : ℕ) (xs ys : List Request) → grants short o (xs ++ ys) ≡ grants short o xs ++ grants short (o + total xs) ys
unfolding grants total
grants_append short o [] ys = rw (add-zero o) refl
grants_append short o (x ∷ xs) ys = rw (grants_append short (o + x.size) xs ys, add_assoc o x.size (total xs)) refl

pendings_append : (o : ℕ) (xs ys : List Request) → pendings o (xs ++ ys) ≡ pendings o xs ++ pendings o ys
unfolding pendings
pendings_append o [] ys = refl
pendings_append o (x ∷ xs) ys = rw (pendings_append o xs ys) refl

-- the first k of these requests are stored
abbrev pub Pended : List Request → List Element → ℕ → ℕ → List Element → Type 0
Pended qs old o k out = out ≡ pendings o (take k qs) ++ drop k old

-- .. and what the grants come to from an offset on, and where they end
pub record Granted (qs : List Request) (old : List Element) (short from k offset : ℕ) (out : List Element) : Type 0 where
  pub end : offset ≡ from + total (take k qs)
  pub put : out ≡ grants short from (take k qs) ++ drop k old

module _ (qs : List Request) (old : List Element) (room : length qs ≤ length old) where
  pub pended_none : (o : ℕ) → Pended qs old o 0 old
  unfolding pendings
  pended_none o = refl

  pub pended_all : (o k : ℕ) (out : List Element) → k ≤ length qs → length qs ≤ k → Pended qs old o k out → out ≡ pendings o qs ++ drop (length qs) old
  pended_all o k out a b e = let all : k ≡ length qs = omega arith in e ∙ rw (all, take-length qs) refl

  pub granted_none : (short from : ℕ) → Granted qs old short from 0 from old
  unfolding grants total
  granted_none short from = record { end = omega arith; put = refl }

  pub granted_all : (short from k offset : ℕ) (out : List Element) → k ≤ length qs → length qs ≤ k → Granted qs old short from k offset out → (offset ≡ from + total qs) × (out ≡ grants short from qs ++ drop (length qs) old)
  granted_all short from k offset out a b g =
      let all : k ≡ length qs = omega arith in
      (g.end ∙ rw (all, take-length qs) refl, g.put ∙ rw (all, take-length qs) refl)

  module _ (k : ℕ) (more : k < length qs) (q : Request) (is : q ≡ get_or qs k spare) where
    next : take (k + 1) qs ≡ take k qs ++ (q ∷ [])
    next = rw is (take_more qs k spare more)

    taken : length (take k qs) ≡ k
    taken = length-take-le k qs (omega arith)

    pub pended_more : (o : ℕ) (out : List Element) → Pended qs old o k out → Pended qs old o (k + 1) (set out k (record { sid = q.sid; iuc = 5; offset = o }))
    unfolding pendings
    pended_more o out e =
        rw (e, next, pendings_append o (take k qs) (q ∷ []))
        (store spare_element (pendings o (take k qs)) old k (record { sid = q.sid; iuc = 5; offset = o }) (length_pendings o (take k qs) ∙ taken) (omega arith))

    sum : total (take (k + 1) qs) ≡ total (take k qs) + q.size
    unfolding total
    sum = rw (next, total_append (take k qs) (q ∷ []), add-zero q.size) refl

    -- not past the end of them all
    pub granted_fits : (short from offset : ℕ) (out : List Element) → Granted qs old short from k offset out → from + total qs ≤ 4096 → offset + q.size ≤ 4096
    granted_fits short from offset out g h =
        let whole : total qs ≡ total (take (k + 1) qs) + total (drop (k + 1) qs) = ap total (sym (take-append-drop (k + 1) qs)) ∙ total_append (take (k + 1) qs) (drop (k + 1) qs) in
        omega (arith, g.end, sum)

    pub granted_more : (short from offset iuc : ℕ) (out : List Element) → Granted qs old short from k offset out → iuc ≡ use_of short q → Granted qs old short from (k + 1) (offset + q.size) (set out k (record { sid = q.sid; iuc = iuc; offset = offset }))
    unfolding grants
    granted_more short from offset iuc out g u = record {
      end = omega (arith, g.end, sum);
      put =
          rw (g.put, next, grants_append short from (take k qs) (q ∷ []), u, ← g.end)
          (store spare_element (grants short from (take k qs)) old k (record { sid = q.sid; iuc = use_of short q; offset = offset }) (length_grants short from (take k qs) ∙ taken) (omega arith));
    }

-- the first element, the grants, the Null and the pendings, stored one after the other, are the plan
first : Element
first = record { sid = 0x3FFF; iuc = 1; offset = 0 }

pub plan_whole : (short c : ℕ) (gs ps : List Request) → length gs + length ps ≤ 64 → (end : ℕ) (t u v one two : List Element) → length t ≡ 65 → (end ≡ c + total gs) × (one ≡ grants short c gs ++ drop (length gs) t) → two ≡ pendings end ps ++ u →
    take (length gs + length ps + 2) (take (length gs + 2) (set (record { sid = 0x3FFF; iuc = 1; offset = 0 } ∷ (one ++ [])) (length gs + 1) (null end)) ++ (two ++ v)) ≡ elements_of short c gs ps
unfolding elements_of first
plan_whole short c gs ps few end t u v one two room grants' pendings' =
    let G : List Element = first ∷ grants short c gs in
    let N : List Element = null end ∷ [] in
    let P : List Element = pendings end ps in
    let a : length G ≡ length gs + 1 = omega (arith, length_grants short c gs) in
    let b : length (G ++ N) ≡ length gs + 2 = length-append G N ∙ omega arith in
    let d : length ((G ++ N) ++ P) ≡ length gs + length ps + 2 = length-append (G ++ N) P ∙ omega (arith, length_pendings end ps) in
    let more : length gs + 1 + 1 ≡ length gs + 2 = omega arith in
    let begun : first ∷ (one ++ []) ≡ G ++ drop (length gs + 1) (first ∷ t) = ap (λ (l : List Element). first ∷ l) (append-nil one ∙ grants'.1) ∙ rw (add-one (length gs)) refl in
    let closed : set (first ∷ (one ++ [])) (length gs + 1) (null end) ≡ (G ++ N) ++ drop (length gs + 2) (first ∷ t) = rw begun (store first G (first ∷ t) (length gs + 1) (null end) a (omega arith)) ∙ ap (λ (n : ℕ). (G ++ N) ++ drop n (first ∷ t)) more in
    let whole : take (length gs + 2) (set (first ∷ (one ++ [])) (length gs + 1) (null end)) ++ (two ++ v) ≡ ((G ++ N) ++ P) ++ (u ++ v) = rw (closed, take_at (G ++ N) (drop (length gs + 2) (first ∷ t)) (length gs + 2) b, pendings', append_assoc P u v) (sym (append_assoc (G ++ N) P (u ++ v))) in
    rw (whole, take_at ((G ++ N) ++ P) (u ++ v) (length gs + length ps + 2) d, append_assoc G N P, grants'.0) refl
