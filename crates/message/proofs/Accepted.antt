-- What an accepted message is: laws of the walk over its elements that comes out whole.
use mathlib.Core.Path.{◌≡◌, refl, sym, ◌∙◌, ap, subst}
use mathlib.Core.Bool.{Bool, true, false, cond, not, ◌&&◌}
use mathlib.Core.Logic.{◌⊎◌, inl, inr}
use mathlib.Core.List.Memᴰ
use mathlib.Core.List.{List, [], ◌∷◌, ◌++◌, append_assoc, Memᴰ}
use Prim.Native.Nat.{ℕ, zero, suc, ◌+◌, ◌-◌, ◌*◌, ◌≤◌, ◌<◌}
use native.Mathlib.Nat.{sub-zero, zero-add}
use native.Mathlib.Omega.{arith}
use lib.Dec.{leb, ltb, eqb}
use lib.ListN.{length}
use borrow.Author.Tests.{ltb-false, leb-true, leb-false, eqb-true, eqb-false, eq-eqb, ne_eqb}
use Rattle.rules.specs.declared.element.Element.{Element}
use Rattle.rules.specs.declared.rules.Progress.{Progress}
use Rattle.std.specs.Prelude.{Result, Ok, Err}
use Rattle.rules.specs.declared.rules.Whole.{Whole}
use Rattle.rules.specs.declared.refusal.Reason.{Reason}
use Rattle.rules.specs.declared.refusal.Reason.TheVariants.{Use, Null, Sid, Place, Span, Grant}
use Rattle.rules.specs.declared.refusal.Refusal.{Refusal}
use Rattle.message.specs.declared.reading.Reading.{Reading}
use Rattle.message.specs.declared.reading.Checked.{Checked}
use Rattle.message.specs.Element.{element_in, element_at}
use Rattle.message.specs.Fields.{fields_of, count_of}
use Rattle.rules.specs.Refusals.{refusal, unless}
use Rattle.message.specs.Lists.{listed, keep, gather}
use Rattle.rules.specs.Rules.{granting, unknown_use, misordered, wrong_sid, misplaced, too_far, grant_too_long, fault_of, nothing_yet, advanced, ended_at, walked}
use Rattle.message.specs.Map.{Interval, first_offset, intervals, map_length, after_null}
use Rattle.message.specs.Reading.{header_fault, reading_of, map_of, read_of}
use Rattle.message.specs.Scan.{checked_by}
use Rattle.rules.proofs.Ways.{advanced_after}
use Rattle.message.proofs.Ways.{passed, Sound, header_sound, element_there}

-- what is kept of two lists, and gathered from them
pub keep_append : {A : Type 0} (p : A → Bool) (xs ys : List A) → keep p (xs ++ ys) ≡ keep p xs ++ keep p ys
keep_append p [] ys = refl
keep_append {A} p (x ∷ xs) ys = go (p x) (keep_append p xs ys)
  where
    go : (b : Bool) → keep p (xs ++ ys) ≡ keep p xs ++ keep p ys → cond b (x ∷ keep p (xs ++ ys)) (keep p (xs ++ ys)) ≡ cond b (x ∷ keep p xs) (keep p xs) ++ keep p ys
    go true h = ap (λ (l : List A). x ∷ l) h
    go false h = h

pub gather_append : {A B : Type 0} (f : A → List B) (xs ys : List A) → gather f (xs ++ ys) ≡ gather f xs ++ gather f ys
gather_append f [] ys = refl
gather_append f (x ∷ xs) ys = rw (append_assoc, gather_append f xs ys) refl

-- a walk that comes out whole, by where the Null stands and the map length
abbrev pub as_whole : ℕ → ℕ → Result Whole Refusal
as_whole null length = Ok (record { null = null; length = length })

abbrev the_whole : Result Whole Refusal → Whole
the_whole (Ok w) = w
the_whole (Err why) = record { null = 0; length = 0 }

whole_parts : {a b c d : ℕ} → as_whole a b ≡ as_whole c d → (a ≡ c) × (b ≡ d)
whole_parts e = (ap (λ (r : Result Whole Refusal). (the_whole r).null) e, ap (λ (r : Result Whole Refusal). (the_whole r).length) e)

-- an element that breaks no rule
pub record Passes (p : Progress) (e : Element) : Type 0 where
  pub used : unknown_use e ≡ false
  pub ordered : misordered p e ≡ false
  pub allowed : wrong_sid e ≡ false
  pub placed : misplaced p e ≡ false
  pub near : too_far p e ≡ false
  pub short : grant_too_long p e ≡ false

pub passes : (p : Progress) (e : Element) → fault_of p e ≡ Ok tt → Passes p e
unfolding fault_of
passes p e h =
    let five = passed (unknown_use e) Use _ h in
    let ten = passed (misordered p e) Null _ five.1 in
    let six = passed (wrong_sid e) Sid _ ten.1 in
    let seven = passed (misplaced p e) Place _ six.1 in
    let eight = passed (too_far p e) Span _ seven.1 in
    let nine = passed (grant_too_long p e) Grant (Ok tt) eight.1 in
    record { used = five.0; ordered = ten.0; allowed = six.0; placed = seven.0; near = eight.0; short = nine.0 }

-- what is known after an element that is not the Null
abbrev pub onward : Element → Progress
onward e = record { first = false; closed = false; null = 0; offset = e.offset; granting = granting e.iuc }

module _ (a b : ℕ) where
  -- the first element of a whole walk passes, and the rest is whole
  pub whole_step : (i : ℕ) (p : Progress) (e : Element) (es : List Element) → walked i p (e ∷ es) ≡ as_whole a b → Passes p e × (walked (i + 1) (advanced p e i) es ≡ as_whole a b)
  unfolding walked
  whole_step i p e es w = go (fault_of p e) refl w
    where
      go : (f : Result Unit Reason) → fault_of p e ≡ f → unless f i (walked (i + 1) (advanced p e i) es) ≡ as_whole a b → Passes p e × (walked (i + 1) (advanced p e i) es ≡ as_whole a b)
      go (Ok u) h v = (passes p e h, v)
      go (Err why) h v = let z : ◌≡◌ {A = ℕ} 0 1 = cc in absurd (omega arith)

  -- after the Null nothing moves any more
  pub whole_closed : (i : ℕ) (p : Progress) (es : List Element) → p.closed ≡ true → walked i p es ≡ as_whole a b → (p.null ≡ a) × (p.offset ≡ b)
  unfolding walked ended_at
  whole_closed i p [] h w = let v : as_whole p.null p.offset ≡ as_whole a b = rw h at w in whole_parts v
  whole_closed i p (e ∷ es) h w = whole_closed (i + 1) p es h (rw (← advanced_after p e i h) at (whole_step i p e es w).1)

  -- before it there is one to come
  pub whole_open : (i : ℕ) (p : Progress) → p.closed ≡ false → walked i p [] ≡ as_whole a b → ⊥
  unfolding walked ended_at
  whole_open i p h w = let v : ◌≡◌ {A = Result Whole Refusal} (Err (refusal Null i)) (as_whole a b) = rw h at w in let z : ◌≡◌ {A = ℕ} 0 1 = cc in omega arith

  module _ (i : ℕ) (p : Progress) (e : Element) (es : List Element) (h : p.closed ≡ false) (w : walked (i + 1) (advanced p e i) es ≡ as_whole a b) where
    -- the Null gives its number and its offset
    pub whole_null : eqb e.iuc 7 ≡ true → (i ≡ a) × (e.offset ≡ b)
    unfolding advanced
    whole_null k = whole_closed (i + 1) (record { first = false; closed = true; null = i; offset = e.offset; granting = false }) es refl (rw (h, k) at w)

    pub whole_rest : eqb e.iuc 7 ≡ false → walked (i + 1) (onward e) es ≡ as_whole a b
    unfolding advanced
    whole_rest k = rw (h, k) at w

  pub whole_length : (i : ℕ) (p : Progress) (es : List Element) → p.closed ≡ false → walked i p es ≡ as_whole a b → map_length es ≡ b
  unfolding map_length
  whole_length i p [] h w = absurd (whole_open i p h w)
  whole_length i p (e ∷ es) h w = go (eqb e.iuc 7) refl (whole_step i p e es w).1 (λ v. whole_length (i + 1) (onward e) es refl v)
    where
      go : (t : Bool) → eqb e.iuc 7 ≡ t → walked (i + 1) (advanced p e i) es ≡ as_whole a b → (walked (i + 1) (onward e) es ≡ as_whole a b → map_length es ≡ b) → cond t e.offset (map_length es) ≡ b
      go true k v more = (whole_null i p e es h v k).1
      go false k v more = more (whole_rest i p e es h v k)

-- an element before or at the Null
near_enough : (p : Progress) (e : Element) → p.closed ≡ false → Passes p e → e.offset ≤ 4096
near_enough p e h s = let f : (not p.closed && ltb 4096 e.offset) ≡ false = s.near in ltb-false 4096 e.offset (rw h at f)

further_on : (p : Progress) (e : Element) → p.closed ≡ false → p.first ≡ false → Passes p e → p.offset < e.offset
unfolding misplaced
further_on p e h k s = leb-false e.offset p.offset (rw (h, k) at s.placed)

-- the intervals of a whole walk: none is empty, and all lie inside the map, which is at most 4,096 long
pub record Inner (p : Progress) (es : List Element) (length : ℕ) : Type 0 where
  pub above : p.first ≡ false → p.offset < first_offset es
  pub below : first_offset es ≤ length
  pub short : length ≤ 4096
  pub each : (k : Interval) → Memᴰ k (intervals es) → (1 ≤ k.length) × (k.first + k.length ≤ length)

pub whole_inner : (a b i : ℕ) (p : Progress) (es : List Element) → p.closed ≡ false → walked i p es ≡ as_whole a b → Inner p es b
unfolding intervals
whole_inner a b i p [] h w = absurd (whole_open a b i p h w)
whole_inner a b i p (e ∷ es) h w =
    let s = whole_step a b i p e es w in
    go (eqb e.iuc 7) refl s.0 s.1 (λ v. whole_inner a b (i + 1) (onward e) es refl v)
  where
    go : (t : Bool) → eqb e.iuc 7 ≡ t → Passes p e → walked (i + 1) (advanced p e i) es ≡ as_whole a b → (walked (i + 1) (onward e) es ≡ as_whole a b → Inner (onward e) es b) → Inner p (e ∷ es) b
    go true t s v more =
        let end : e.offset ≡ b = (whole_null a b i p e es h v t).1 in
        record {
          above = λ f. further_on p e h f s;
          below = omega arith;
          short = omega (arith, near_enough p e h s);
          each = λ k m. absurd (Memᴰ.not-nil (rw t at m));
        }
    go false t s v more =
        let o = more (whole_rest a b i p e es h v t) in
        let rise : e.offset < first_offset es = o.above refl in
        record {
          above = λ f. further_on p e h f s;
          below = omega (arith, o.below);
          short = o.short;
          each = λ k m. one k o rise (Memᴰ.cases_cons (rw t at m));
        }
      where
        one : (k : Interval) → Inner (onward e) es b → e.offset < first_offset es → (k ≡ record { sid = e.sid; iuc = e.iuc; first = e.offset; length = first_offset es - e.offset }) ⊎ Memᴰ k (intervals es) → (1 ≤ k.length) × (k.first + k.length ≤ b)
        one k o rise (inl q) = rw q (omega arith, omega (arith, o.below))
        one k o rise (inr m) = o.each k m

-- elements i up to n by number, where the Null is number null and its offset is length
pub record Framed (el : ℕ → Element) (i n null length : ℕ) : Type 0 where
  pub from : i ≤ null
  pub inside : null < n
  pub closes : (el null).iuc ≡ 7
  pub ends : (el null).offset ≡ length
  pub others : (j : ℕ) → i ≤ j → j < null → (el j).iuc ≡ 7 → ⊥
  pub rises : (j : ℕ) → i ≤ j → j < null → (el j).offset < (el (j + 1)).offset
  pub fits : (j : ℕ) → i ≤ j → j ≤ null → (el j).offset ≤ 4096

-- what holds of i, and of all after it, holds from i on
from_one : (P : ℕ → Type 0) (i j : ℕ) → i ≤ j → P i → (i + 1 ≤ j → P j) → P j
from_one P i j h one more = go (leb (i + 1) j) refl
  where
    go : (t : Bool) → leb (i + 1) j ≡ t → P j
    go true e = more (leb-true (i + 1) j e)
    go false e = let l = leb-false (i + 1) j e in let z : i ≡ j = omega arith in subst P z one

module _ (el : ℕ → Element) (a b : ℕ) where
  pub framed : (k i : ℕ) (p : Progress) → p.closed ≡ false → walked i p (listed el i k) ≡ as_whole a b → Framed el i (i + k) a b × (p.first ≡ false → p.offset < (el i).offset)
  unfolding listed
  framed zero i p h w = absurd (whole_open a b i p h w)
  framed (suc k) i p h w =
      let s = whole_step a b i p (el i) (listed el (i + 1) k) w in
      go (eqb (el i).iuc 7) refl s.0 s.1 (λ v. framed k (i + 1) (onward (el i)) refl v)
    where
      go : (t : Bool) → eqb (el i).iuc 7 ≡ t → Passes p (el i) → walked (i + 1) (advanced p (el i) i) (listed el (i + 1) k) ≡ as_whole a b →
          (walked (i + 1) (onward (el i)) (listed el (i + 1) k) ≡ as_whole a b → Framed el (i + 1) (i + 1 + k) a b × (false ≡ false → (el i).offset < (el (i + 1)).offset)) →
          Framed el i (i + suc k) a b × (p.first ≡ false → p.offset < (el i).offset)
      go true e s v more =
          let n = whole_null a b i p (el i) (listed el (i + 1) k) h v e in
          let at : i ≡ a = n.0 in (
            record {
              from = omega arith;
              inside = omega arith;
              closes = ap (λ j. (el j).iuc) (sym at) ∙ eqb-true (el i).iuc 7 e;
              ends = ap (λ j. (el j).offset) (sym at) ∙ n.1;
              others = λ j f l u. absurd (omega arith);
              rises = λ j f l. absurd (omega arith);
              fits = λ j f l. let z : i ≡ j = omega arith in subst (λ j'. (el j').offset ≤ 4096) z (near_enough p (el i) h s);
            },
            λ f. further_on p (el i) h f s,
          )
      go false e s v more =
          let r = more (whole_rest a b i p (el i) (listed el (i + 1) k) h v e) in
          let o = r.0 in (
            record {
              from = omega (arith, o.from);
              inside = omega (arith, o.inside);
              closes = o.closes;
              ends = o.ends;
              others = λ j f l. from_one (λ j'. (el j').iuc ≡ 7 → ⊥) i j f (eqb-false (el i).iuc 7 e) (λ f'. o.others j f' l);
              rises = λ j f l. from_one (λ j'. (el j').offset < (el (j' + 1)).offset) i j f (r.1 refl) (λ f'. o.rises j f' l);
              fits = λ j f l. from_one (λ j'. (el j').offset ≤ 4096) i j f (near_enough p (el i) h s) (λ f'. o.fits j f' l);
            },
            λ f. further_on p (el i) h f s,
          )

-- the interval of an element, by the next one
abbrev pub interval_to : Element → Element → Interval
interval_to e next = record { sid = e.sid; iuc = e.iuc; first = e.offset; length = next.offset - e.offset }

module _ (el : ℕ → Element) (n null length : ℕ) (f : Framed el 0 n null length) (i : ℕ) where
  pub interval_next : i < null → intervals (listed el i (n - i)) ≡ interval_to (el i) (el (i + 1)) ∷ intervals (listed el (i + 1) (n - (i + 1)))
  unfolding intervals listed
  interval_next h =
      let here : n - i ≡ suc (n - (i + 1)) = omega (arith, f.inside) in
      let next : n - (i + 1) ≡ suc (n - (i + 1 + 1)) = omega (arith, f.inside) in
      rw (here, next, ne_eqb (el i).iuc 7 (f.others i (omega arith) h)) refl

  pub interval_end : i ≡ null → intervals (listed el i (n - i)) ≡ []
  unfolding intervals listed
  interval_end h =
      let here : n - i ≡ suc (n - (i + 1)) = omega (arith, f.inside) in
      let z : (el i).iuc ≡ 7 = ap (λ j. (el j).iuc) h ∙ f.closes in rw (here, eq-eqb (el i).iuc 7 z) refl

  -- from an element before the Null, or from it, what follows the Null
  pub after_next : i < null → after_null (listed el i (n - i)) ≡ after_null (listed el (i + 1) (n - (i + 1)))
  unfolding after_null listed
  after_next h =
      let here : n - i ≡ suc (n - (i + 1)) = omega (arith, f.inside) in
      rw (here, ne_eqb (el i).iuc 7 (f.others i (omega arith) h)) refl

  pub after_end : i ≡ null → after_null (listed el i (n - i)) ≡ listed el (i + 1) (n - (i + 1))
  unfolding after_null listed
  after_end h =
      let here : n - i ≡ suc (n - (i + 1)) = omega (arith, f.inside) in
      let z : (el i).iuc ≡ 7 = ap (λ j. (el j).iuc) h ∙ f.closes in rw (here, eq-eqb (el i).iuc 7 z) refl

module _ (el : ℕ → Element) (n null length : ℕ) (f : Framed el 0 n null length) where
  after_from : (d i : ℕ) → i + d ≡ null → after_null (listed el i (n - i)) ≡ listed el (null + 1) (n - (null + 1))
  after_from zero i h = let z : i ≡ null = omega arith in after_end el n null length f i z ∙ rw z refl
  after_from (suc d) i h = after_next el n null length f i (omega arith) ∙ after_from d (i + 1) (omega arith)

  pub after_null_lem : after_null (listed el 0 n) ≡ listed el (null + 1) (n - (null + 1))
  after_null_lem = rw sub-zero at (after_from null 0 (omega arith))

-- the elements of a message, with an accessor that is total
pub elements_at : (s : List ℕ) (k i : ℕ) → 16 + 4 * (i + k) ≤ length s → listed (element_in s) i k ≡ listed (element_at s) i k
unfolding listed
elements_at s zero i h = refl
elements_at s (suc k) i h = rw (element_there s i (omega arith), elements_at s k (i + 1) (omega arith)) refl

-- all that is known of an accepted message
pub record Accept (s : List ℕ) (reading : Reading) : Type 0 where
  pub sound : Sound s
  pub fields : reading.fields ≡ fields_of s
  pub number : reading.n ≡ count_of s
  pub walk : walked 0 nothing_yet (map_of s).elements ≡ as_whole reading.null reading.length
  pub elements : (map_of s).elements ≡ listed (element_at s) 0 reading.n
  pub ends : map_length (map_of s).elements ≡ reading.length
  pub inner : Inner nothing_yet (map_of s).elements reading.length
  pub frame : Framed (element_at s) 0 reading.n reading.null reading.length

pub accepted : (s : List ℕ) (reading : Reading) → read_of s ≡ Ok reading → Accept s reading
unfolding read_of
accepted s reading w = header (header_fault s) refl w
  where
    whole : Sound s → (v : Result Whole Refusal) → walked 0 nothing_yet (map_of s).elements ≡ v → reading_of (fields_of s) (count_of s) v ≡ Ok reading → Accept s reading
    whole sound (Err why) e x = let z : ◌≡◌ {A = ℕ} 0 1 = cc in absurd (omega arith)
    whole sound (Ok v) e x =
        let got : record { fields = fields_of s; n = count_of s; null = v.null; length = v.length } ≡ reading = cc in
        let walk : walked 0 nothing_yet (map_of s).elements ≡ as_whole reading.null reading.length = rw (← got) e in
        let number : reading.n ≡ count_of s = sym (ap (λ (r : Reading). r.n) got) in
        let fields : reading.fields ≡ fields_of s = sym (ap (λ (r : Reading). r.fields) got) in
        let at : (map_of s).elements ≡ listed (element_at s) 0 (count_of s) = elements_at s (count_of s) 0 (omega (arith, sound.fits)) in
        record {
          sound = sound;
          fields = fields;
          number = number;
          walk = walk;
          elements = rw number at;
          inner = whole_inner reading.null reading.length 0 nothing_yet (map_of s).elements refl walk;
          ends = whole_length reading.null reading.length 0 nothing_yet (map_of s).elements refl walk;
          frame = rw number (rw zero-add at (framed (element_at s) reading.null reading.length (count_of s) 0 nothing_yet refl (rw (← at) walk)).0);
        }

    header : (f : Result Unit Reason) → header_fault s ≡ f → unless f 0 (reading_of (map_of s).fields (count_of s) (walked 0 nothing_yet (map_of s).elements)) ≡ Ok reading → Accept s reading
    header (Err why) h x = let z : ◌≡◌ {A = ℕ} 0 1 = cc in absurd (omega arith)
    header (Ok u) h x = whole (header_sound s h) (walked 0 nothing_yet (map_of s).elements) refl x

-- what a check that says no more than the bytes don't tell leaves of the reading
module _ (s : List ℕ) (c : Result Checked Refusal) (is : c ≡ checked_by (read_of s)) where
  pub checked_whole : (v : Checked) → c ≡ Ok v → read_of s ≡ Ok (record { fields = fields_of s; n = v.n; null = v.whole.null; length = v.whole.length })
  checked_whole v e = go (read_of s) refl (sym is ∙ e)
    where
      go : (x : Result Reading Refusal) → read_of s ≡ x → checked_by x ≡ Ok v → x ≡ Ok (record { fields = fields_of s; n = v.n; null = v.whole.null; length = v.whole.length })
      go (Ok r) w h =
          let a : record { n = r.n; whole = record { null = r.null; length = r.length } } ≡ v = cc in
          rw (← a, ← (accepted s r w).fields) refl
      go (Err why) w h = absurd (let z : ◌≡◌ {A = ℕ} 0 1 = cc in omega arith)

  pub checked_fault : (why : Refusal) → c ≡ Err why → read_of s ≡ Err why
  checked_fault why e = go (read_of s) (sym is ∙ e)
    where
      go : (x : Result Reading Refusal) → checked_by x ≡ Err why → x ≡ Err why
      go (Ok r) h = absurd (let z : ◌≡◌ {A = ℕ} 0 1 = cc in omega arith)
      go (Err w) h = let same : w ≡ why = cc in rw same refl
