-- What is known of the body that stands next: a MAP's row, or the number of a refusal.
use mathlib.Core.Path.{◌≡◌, refl, sym, ◌∙◌, ap}
use mathlib.Core.Bool.{Bool, true, false, cond, not, ◌||◌}
use mathlib.Core.List.{List, [], ◌∷◌}
use Prim.Native.Nat.{ℕ, zero, suc, ◌+◌, ◌*◌, ◌≤◌, ◌<◌}
use native.Mathlib.Omega.{arith}
use lib.Dec.{ltb, eqb}
use lib.ListN.{length, take}
use lib.Seq.{get_or-take}
use borrow.Author.Tests.{ltb-false, eqb-false}
use Rattle.rules.specs.declared.element.Element.{Element}
use Rattle.rules.specs.declared.fields.Fields.{Fields}
use Rattle.rules.specs.declared.refusal.Reason.{Reason}
use Rattle.rules.specs.declared.refusal.Reason.TheVariants.{Short, Count, Length, Backoff, Use, Sid, Place, Span, Grant, Null, Room, Channel, Description, Stale, Late, Busy, Size, Held, Full, Passed, Unannounced, Ack, Plan, Selfcheck}
use Rattle.rules.specs.declared.refusal.Refusal.{Refusal}
use Rattle.rules.specs.declared.rules.Progress.{Progress}
use Rattle.rules.specs.declared.rules.Whole.{Whole}
use Rattle.rules.specs.Refusals.{number_of, unless}
use Rattle.message.specs.declared.reading.Reading.{Reading}
use Rattle.message.specs.Element.{word_at, element_at}
use Rattle.rules.specs.Backoffs.{bad_backoffs}
use Rattle.message.specs.Fields.{fields_of, count_of}
use Rattle.rules.specs.Rules.{misordered, unknown_use, wrong_sid, misplaced, too_far, grant_too_long, fault_of, nothing_yet, advanced, ended_at, walked}
use Rattle.message.specs.Lists.{listed}
use Rattle.message.specs.Reading.{header_fault, map_of, reading_of, read_of}
use Rattle.message.proofs.Ways.{or_none}
use Rattle.message.proofs.Accepted.{Accept, as_whole, accepted, whole_step}
use Rattle.report.specs.declared.bodies.Row.{Row}
use Rattle.std.specs.Prelude.{Result, Ok, Err}
use Rattle.report.specs.Bodies.{Body, size_of, body_by, next_of}

-- what measures at most m on both sides of a test
pub at_most : {A : Type 0} (f : A → ℕ) (m : ℕ) (b : Bool) (x y : A) → f x ≤ m → f y ≤ m → f (cond b x y) ≤ m
at_most f m true x y h k = h
at_most f m false x y h k = k

-- a refusal's number has two digits at most
pub number_short : (why : Reason) → number_of why ≤ 99
number_short Short = omega arith
number_short Count = omega arith
number_short Length = omega arith
number_short Backoff = omega arith
number_short Use = omega arith
number_short Sid = omega arith
number_short Place = omega arith
number_short Span = omega arith
number_short Grant = omega arith
number_short Null = omega arith
number_short Room = omega arith
number_short Channel = omega arith
number_short Description = omega arith
number_short Stale = omega arith
number_short Late = omega arith
number_short Busy = omega arith
number_short Size = omega arith
number_short Held = omega arith
number_short Full = omega arith
number_short Passed = omega arith
number_short Unannounced = omega arith
number_short Ack = omega arith
number_short Plan = omega arith
number_short Selfcheck = omega arith

-- numbers of refusals, 0 where there is none
abbrev reason_in : Result Unit Reason → ℕ
reason_in (Ok u) = 0
reason_in (Err why) = number_of why

abbrev pub bad_in : Body → ℕ
bad_in (Ok row) = 0
bad_in (Err why) = number_of why

module _ {A : Type 0} where
  abbrev refusal_in : Result A Refusal → ℕ
  refusal_in (Ok x) = 0
  refusal_in (Err why) = number_of why.reason

  unless_most : (f : Result Unit Reason) (i : ℕ) (rest : Result A Refusal) → reason_in f ≤ 10 → refusal_in rest ≤ 10 → refusal_in (unless f i rest) ≤ 10
  unless_most (Ok u) i rest h k = k
  unless_most (Err why) i rest h k = h

module _ (p : Progress) (e : Element) where
  fault_most : reason_in (fault_of p e) ≤ 10
  unfolding fault_of
  fault_most =
      at_most reason_in 10 (unknown_use e) _ _ (omega arith)
      (at_most reason_in 10 (misordered p e) _ _ (omega arith)
      (at_most reason_in 10 (wrong_sid e) _ _ (omega arith)
      (at_most reason_in 10 (misplaced p e) _ _ (omega arith)
      (at_most reason_in 10 (too_far p e) _ _ (omega arith)
      (at_most reason_in 10 (grant_too_long p e) _ _ (omega arith) (omega arith))))))

walk_most : (i : ℕ) (p : Progress) (es : List Element) → refusal_in (walked i p es) ≤ 10
unfolding walked ended_at
walk_most i p [] = at_most refusal_in 10 p.closed _ _ (omega arith) (omega arith)
walk_most i p (e ∷ es) =
    unless_most (fault_of p e) i (walked (i + 1) (advanced p e i) es) (fault_most p e) (walk_most (i + 1) (advanced p e i) es)

module _ (s : List ℕ) where
  header_most : reason_in (header_fault s) ≤ 10
  unfolding header_fault
  header_most =
      at_most reason_in 10 (ltb (length s) 16) _ _ (omega arith)
      (at_most reason_in 10 (eqb (count_of s) 0 || ltb 240 (count_of s)) _ _ (omega arith)
      (at_most reason_in 10 (not (eqb (length s) (16 + 4 * count_of s))) _ _ (omega arith)
      (at_most reason_in 10 (bad_backoffs (fields_of s)) _ _ (omega arith) (omega arith))))

  reading_most : (f : Fields) (n : ℕ) (w : Result Whole Refusal) → refusal_in w ≤ 10 → refusal_in (reading_of f n w) ≤ 10
  reading_most f n (Ok w) h = omega arith
  reading_most f n (Err why) h = h

  read_most : refusal_in (read_of s) ≤ 10
  unfolding read_of
  read_most =
      let walk = walked 0 nothing_yet (map_of s).elements in
      unless_most (header_fault s) 0 (reading_of (fields_of s) (count_of s) walk) header_most
      (reading_most (fields_of s) (count_of s) walk (walk_most 0 nothing_yet (map_of s).elements))

body_most : (v : Result Reading Refusal) → refusal_in v ≤ 10 → bad_in (body_by v) ≤ 10
body_most (Ok reading) h = omega arith
body_most (Err why) h = h

-- a refusal in the report is at most 10
pub next_most : (s : List ℕ) → bad_in (next_of s) ≤ 10
unfolding next_of
next_most s =
    at_most bad_in 10 (ltb (length s) 16) _ _ (omega arith)
    (at_most bad_in 10 (eqb (count_of s) 0 || ltb 240 (count_of s)) _ _ (omega arith)
    (at_most bad_in 10 (ltb (length s) (size_of (count_of s))) _ _ (omega arith)
    (body_most (read_of (take (size_of (count_of s)) s)) (read_most (take (size_of (count_of s)) s)))))

-- an accepted message has two elements or more: the first is not the Null
two_from : (el : ℕ → Element) (a b n null : ℕ) → null < n → walked 0 nothing_yet (listed el 0 n) ≡ as_whole a b → (el null).iuc ≡ 7 → 2 ≤ n
unfolding listed misordered
two_from el a b zero null l w c = absurd (omega arith)
two_from el a b (suc n) zero l w c =
    let first = (whole_step a b 0 nothing_yet (el 0) (listed el 1 n) w).0 in
    absurd (eqb-false (el 0).iuc 7 (or_none (eqb (el 0).iuc 8) (eqb (el 0).iuc 7) first.ordered).1 c)
two_from el a b (suc n) (suc null) l w c = omega arith

two_elements : (s : List ℕ) (reading : Reading) → Accept s reading → 2 ≤ reading.n
two_elements s reading a =
    two_from (element_at s) reading.null reading.length reading.n reading.null a.frame.inside (rw a.elements at a.walk) a.frame.closes

-- a MAP that stands next
pub record Good (s : List ℕ) (row : Row) : Type 0 where
  pub short : row.length ≤ 4096
  pub some : 2 ≤ row.n
  pub few : row.n ≤ 240
  pub inside : size_of row.n ≤ length s
  pub start : row.start.0 ≡ word_at s 4

not_bad : (b : Bool) (why : Reason) (x : Body) (row : Row) → cond b (Err why) x ≡ Ok row → (b ≡ false) × (x ≡ Ok row)
not_bad true why x row e = let z : ◌≡◌ {A = ℕ} 0 1 = cc in absurd (omega arith)
not_bad false why x row e = (refl, e)

module _ (s : List ℕ) (row : Row) where
  body : List ℕ
  body = take (size_of (count_of s)) s

  word_of_body : word_at body 4 ≡ word_at s 4
  unfolding body word_at
  word_of_body =
      rw (get_or-take (size_of (count_of s)) s 4 0 (omega arith), get_or-take (size_of (count_of s)) s 5 0 (omega arith), get_or-take (size_of (count_of s)) s 6 0 (omega arith), get_or-take (size_of (count_of s)) s 7 0 (omega arith)) refl

  count_of_body : count_of body ≡ count_of s
  unfolding body
  count_of_body = get_or-take (size_of (count_of s)) s 2 0 (omega arith)

  good_reading : (reading : Reading) → read_of body ≡ Ok reading → body_by (Ok reading) ≡ Ok row → size_of (count_of s) ≤ length s → Good s row
  unfolding fields_of
  good_reading reading is x inside =
      let a = accepted body reading is in
      let got : record { start = reading.fields.start; length = reading.length; n = reading.n } ≡ row = cc in
      let length : reading.length ≡ row.length = ap (λ (r : Row). r.length) got in
      let n : reading.n ≡ row.n = ap (λ (r : Row). r.n) got in
      let start : reading.fields.start.0 ≡ row.start.0 = ap (λ (r : Row). r.start.0) got in
      let count : row.n ≡ count_of s = sym n ∙ a.number ∙ count_of_body in
      record {
        short = omega (arith, a.inner.short);
        some = omega (arith, two_elements body reading a);
        few = omega (arith, a.sound.few, count_of_body);
        inside = omega arith;
        start = sym start ∙ ap (λ (f : Fields). f.start.0) a.fields ∙ word_of_body;
      }

  pub next_good : next_of s ≡ Ok row → Good s row
  unfolding next_of body
  next_good e =
      let one = not_bad (ltb (length s) 16) Short _ row e in
      let two = not_bad (eqb (count_of s) 0 || ltb 240 (count_of s)) Count _ row one.1 in
      let three = not_bad (ltb (length s) (size_of (count_of s))) Length _ row two.1 in
      go (read_of (take (size_of (count_of s)) s)) refl three.1 (ltb-false (length s) (size_of (count_of s)) three.0)
    where
      go : (v : Result Reading Refusal) → read_of (take (size_of (count_of s)) s) ≡ v → body_by v ≡ Ok row → size_of (count_of s) ≤ length s → Good s row
      go (Ok reading) is x inside = good_reading reading is x inside
      go (Err why) is x inside = let z : ◌≡◌ {A = ℕ} 0 1 = cc in absurd (omega arith)
