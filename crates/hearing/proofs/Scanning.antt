-- Going through an accepted message: one law for each way on, over the definitions.
use mathlib.Core.Path.{◌≡◌, refl, sym, ap, ◌∙◌}
use mathlib.Core.Bool.{Bool, true, false, cond, not, ◌&&◌, ◌||◌}
use mathlib.Core.List.{List, [], ◌∷◌, ◌++◌, map, map-append}
use Prim.Native.Nat.{ℕ, zero, suc, ◌+◌, ◌-◌, ◌*◌, ◌/◌, ◌≤◌, ◌<◌}
use native.Mathlib.Nat.{sub-zero, add-zero, zero-mul, suc-mul, div-zero, div-mul-le_self, mul-le-mul_right}
use native.Mathlib.Omega.{arith}
use lib.Dec.{ltb, eqb}
use lib.ListN.{length, length-append}
use borrow.Author.Tests.{lt-ltb, le-ltb, le-leb, lt-leb, eq-eqb, ne_eqb, not-true, not-false, eqb-true, ltb-true, ltb-false}
use Rattle.std.specs.List.{list_any, range_with_len}
use Rattle.slots.specs.declared.time.MiniSlot.{MiniSlot}
use Rattle.slots.specs.Time.{moved_on}
use Rattle.rules.specs.declared.element.Element.{Element}
use Rattle.message.specs.declared.reading.Reading.{Reading}
use Rattle.message.specs.Element.{element_at}
use Rattle.rules.specs.Sids.{within}
use Rattle.message.specs.Lists.{listed, keep, is_empty, gather}
use Rattle.rules.specs.Rules.{granting}
use Rattle.message.specs.Map.{Interval, intervals, pendings_to}
use Rattle.message.specs.Reading.{read_of, map_of}
use Rattle.message.proofs.Ways.{said, said_not, or_none}
use Rattle.message.proofs.Accepted.{accepted, keep_append, gather_append, interval_to, interval_next, interval_end, after_null_lem}
use Rattle.std.specs.declared.ops.ControlFlow.{ControlFlow}
use Rattle.std.specs.declared.ops.ControlFlow.TheVariants.{Break, Continue}
use Rattle.hearing.specs.declared.opportunity.Found.{Found}
use Rattle.hearing.specs.Opportunities.{spaced, contention_in, own_in, contention}
use Rattle.hearing.specs.Scan.{first_of, grants, found_in, apart, passed_by}
use Rattle.std.specs.Prelude.{Option, Some, None, Ok}
use Rattle.std.specs.Option.{option_or}

and_none : (b : Bool) → (b && false) ≡ false
and_none true = refl
and_none false = refl

-- a grant is no Request
granting_not_1 : (iuc : ℕ) → granting iuc ≡ true → eqb iuc 1 ≡ false
granting_not_1 iuc h = go (eqb iuc 1) refl
  where
    go : (b : Bool) → eqb iuc 1 ≡ b → eqb iuc 1 ≡ false
    go false e = e
    go true e = let z : ◌≡◌ {A = Bool} false true = (rw (eqb-true iuc 1 e) at h) in let n : ◌≡◌ {A = ℕ} 0 1 = cc in absurd (omega arith)

pub first_or : (own : Option MiniSlot) (time : MiniSlot) (r : Option MiniSlot) → r ≡ option_or own (Some time) → r ≡ first_of own (time.0 ∷ [])
unfolding first_of
first_or None time r e = e
first_or (Some before) time r e = e

first_none : (own : Option MiniSlot) → first_of own [] ≡ own
unfolding first_of
first_none None = refl
first_none (Some time) = refl

first_append : (own : Option MiniSlot) (xs ys : List ℕ) → first_of (first_of own xs) ys ≡ first_of own (xs ++ ys)
unfolding first_of
first_append (Some time) xs ys = refl
first_append None [] ys = refl
first_append None (x ∷ xs) ys = refl

module _ (start σ r : ℕ) (found : Found) where
  pub found_none : found_in start σ r found [] ≡ found
  unfolding found_in
  found_none = rw (add-zero found.bursts, first_none found.own) refl

  pub found_append : (xs ys : List Interval) → found_in start σ r (found_in start σ r found xs) ys ≡ found_in start σ r found (xs ++ ys)
  unfolding found_in
  found_append xs ys =
      let g : Interval → Bool = λ k. grants σ k.sid k.iuc in
      let a : found.bursts + length (keep g xs) + length (keep g ys) ≡ found.bursts + length (keep g (xs ++ ys)) = rw (keep_append g xs ys, length-append (keep g xs) (keep g ys)) (omega arith) in
      let b : first_of (first_of found.own (map (moved_on 32 start) (gather (own_in σ r) xs))) (map (moved_on 32 start) (gather (own_in σ r) ys)) ≡ first_of found.own (map (moved_on 32 start) (gather (own_in σ r) (xs ++ ys))) =
      first_append found.own _ _ ∙ rw (gather_append (own_in σ r) xs ys, map-append (moved_on 32 start) (gather (own_in σ r) xs) (gather (own_in σ r) ys)) refl in
      λ i. record { bursts = a i; own = b i }

  -- one interval more: nothing of the station's, a burst, a Request to its SID
  module _ (k : Interval) where
    none_more : grants σ k.sid k.iuc ≡ false → own_in σ r k ≡ [] → found ≡ found_in start σ r found (k ∷ [])
    unfolding found_in
    none_more g o = rw (g, o, add-zero found.bursts, first_none found.own) refl

    no_own : eqb k.iuc 1 ≡ false → own_in σ r k ≡ []
    unfolding own_in
    no_own h = rw h refl

    pub noted_other : (k.sid ≡ σ → ⊥) → found ≡ found_in start σ r found (k ∷ [])
    unfolding own_in
    noted_other h = none_more (rw (ne_eqb k.sid σ h) (and_none (granting k.iuc))) (rw (ne_eqb k.sid σ h, and_none (eqb k.iuc 1)) refl)

-- .. to the station's SID
module _ (start r : ℕ) (found : Found) (σ iuc first length : ℕ) where
  abbrev one : Interval
  one = record { sid = σ; iuc = iuc; first = first; length = length }

  unusable : (not (eqb iuc 1) || ltb length r) ≡ true → own_in σ r one ≡ []
  unfolding own_in
  unusable h = go (eqb iuc 1) refl
    where
      go : (b : Bool) → eqb iuc 1 ≡ b → own_in σ r one ≡ []
      go false e = rw e refl
      go true e = rw (lt-leb r length (ltb-true length r (rw e at h)), and_none (eqb iuc 1 && eqb σ σ)) refl

  module _ (g : Bool) (is : g ≡ granting iuc) where
    pub noted_burst : g ≡ true → record { bursts = found.bursts + 1; own = found.own } ≡ found_in start σ r found (one ∷ [])
    unfolding found_in
    noted_burst t = rw (no_own start σ r found one (granting_not_1 iuc (sym is ∙ t)), first_none found.own, sym is ∙ t, eq-eqb σ σ refl) refl

    pub noted_nothing : g ≡ false → (not (eqb iuc 1) || ltb length r) ≡ true → found ≡ found_in start σ r found (one ∷ [])
    noted_nothing f h = none_more start σ r found one (rw (sym is ∙ f) refl) (unusable h)

    pub noted_own : (time : MiniSlot) (s : Option MiniSlot) → g ≡ false → (not (eqb iuc 1) || ltb length r) ≡ false → time.0 ≡ moved_on 32 start first → s ≡ first_of found.own (time.0 ∷ []) → record { bursts = found.bursts; own = s } ≡ found_in start σ r found (one ∷ [])
    unfolding found_in own_in
    noted_own time s f h t e =
        let both = or_none (not (eqb iuc 1)) (ltb length r) h in
        rw (e, t, sym is ∙ f, eq-eqb σ σ refl, not-false (eqb iuc 1) both.0, le-leb r length (ltb-false length r both.1), add-zero found.bursts) refl

-- the opportunities of an interval, by their number
pub contention_in_lem : (r : ℕ) (k : Interval) → contention_in r k ≡ spaced k.first (apart r k.sid k.iuc) (k.length / apart r k.sid k.iuc)
unfolding contention_in apart spaced
contention_in_lem r k = go (eqb k.iuc 1 && eqb k.sid 0x3FFF) (eqb k.iuc 2 && within 0x3FF1 0x3FFE k.sid) (ltb (k.sid - 0x3FF0) r)
  where
    go : (a b c : Bool) → let N = k.sid - 0x3FF0 in
        cond a (spaced k.first r (k.length / r)) (cond b (cond c [] (spaced k.first N (k.length / N))) [])
        ≡ spaced k.first (cond a r (cond b (cond c 0 N) 0)) (k.length / cond a r (cond b (cond c 0 N) 0))
    go true b c = refl
    go false true true = rw (div-zero k.length) refl
    go false true false = refl
    go false false c = rw (div-zero k.length) refl

module _ (at : ℕ → ℕ) (ts : List ℕ) where
  -- fewer left than an interval gives: the request goes there
  pub passed_sends : (step count first left : ℕ) → left < count → passed_by (map at (spaced first step count) ++ ts) left ≡ Break (record { 0 = at (first + left * step) })
  unfolding passed_by spaced
  passed_sends step zero first left h = absurd (omega arith)
  passed_sends step (suc count) first zero h = rw (zero-mul step, add-zero first) refl
  passed_sends step (suc count) first (suc left) h =
      let z : first + step + left * step ≡ first + suc left * step = rw (suc-mul left step) (omega arith) in passed_sends step count (first + step) left (omega arith) ∙ rw z refl

  -- .. else they are passed all together
  pub passed_on : (step count first left : ℕ) → count ≤ left → passed_by (map at (spaced first step count) ++ ts) left ≡ passed_by ts (left - count)
  unfolding passed_by spaced
  passed_on step zero first left h = rw (sub-zero left) refl
  passed_on step (suc count) first zero h = absurd (omega arith)
  passed_on step (suc count) first (suc left) h = let z : left - count ≡ suc left - suc count = omega arith in passed_on step count (first + step) left (omega arith) ∙ rw z refl

-- the last of an interval's opportunities begins in it
pub place_inside : (length step left : ℕ) → left < length / step → left * step ≤ length
place_inside length step left h =
    let m : left * step ≤ length / step * step = mul-le-mul_right step (omega arith) in omega (arith, div-mul-le_self length step)

-- whether there is one among count elements from number i on
any_kept : (g : Element → Bool) (el : ℕ → Element) (i count : ℕ) → list_any (λ j. g (el j)) (range_with_len i count) ≡ not (is_empty (keep g (listed el i count)))
unfolding listed
any_kept g el i zero = refl
any_kept g el i (suc count) = go (g (el i)) (any_kept g el (i + 1) count)
  where
    go : (b : Bool) → list_any (λ j. g (el j)) (range_with_len (i + 1) count) ≡ not (is_empty (keep g (listed el (i + 1) count))) →
        (b || list_any (λ j. g (el j)) (range_with_len (i + 1) count)) ≡ not (is_empty (cond b (el i ∷ keep g (listed el (i + 1) count)) (keep g (listed el (i + 1) count))))
    go true more = refl
    go false more = more

module _ (s : List ℕ) (reading : Reading) (ok : read_of s ≡ Ok reading) where
  pub null_before : reading.null < reading.n
  null_before = (accepted s reading ok).frame.inside

  pub few : reading.n ≤ 240
  few = rw (accepted s reading ok).number (accepted s reading ok).sound.few

  pub null_next : reading.null + 1 ≤ reading.n
  null_next = omega (arith, null_before)

  pub null_next_fits : reading.null + 1 < 4294967296
  null_next_fits = omega (arith, null_before, few)

  pub null_early : reading.null < 240
  null_early = omega (arith, null_before, few)

  -- what is left of the intervals
  abbrev pub rest : ℕ → List Interval
  rest i = intervals (listed (element_at s) i (reading.n - i))

  pub rest_all : rest 0 ≡ intervals (map_of s).elements
  rest_all = rw ((accepted s reading ok).elements, sub-zero reading.n) refl

  pub rest_end : (i : ℕ) → i ≤ reading.null → reading.null ≤ i → rest i ≡ []
  rest_end i h l = interval_end (element_at s) reading.n reading.null reading.length (accepted s reading ok).frame i (omega arith)

  module _ (i : ℕ) (more : i < reading.null) (e next : Element) (is : e ≡ element_at s i) (then : next ≡ element_at s (i + 1)) where
    pub rises : e.offset < next.offset
    rises = rw (is, then) ((accepted s reading ok).frame.rises i (omega arith) more)

    pub rises_on : e.offset ≤ next.offset
    rises_on = omega (arith, rises)

    pub next_fits : next.offset ≤ 4096
    next_fits = rw then ((accepted s reading ok).frame.fits (i + 1) (omega arith) (omega arith))

    pub rest_next : rest i ≡ interval_to e next ∷ rest (i + 1)
    rest_next = rw (is, then) (interval_next (element_at s) reading.n reading.null reading.length (accepted s reading ok).frame i more)

  pub find_begins : (start σ r : ℕ) (found : Found) → found_in start σ r found (rest 0) ≡ found_in start σ r found (intervals (map_of s).elements)
  find_begins start σ r found = rw rest_all refl

  pub pass_begins : (start r left : ℕ) → start ≡ reading.fields.start.0 → passed_by (map (moved_on 32 start) (gather (contention_in r) (rest 0))) left ≡ passed_by (contention r (map_of s)) left
  unfolding contention
  pass_begins start r left h = rw (rest_all, h, (accepted s reading ok).fields) refl

  -- bursts and own Requests: what is found so far, with the rest, is the whole
  module _ (start σ r : ℕ) (whole found : Found) (i : ℕ) where
    pub find_end : i ≤ reading.null → reading.null ≤ i → found_in start σ r found (rest i) ≡ whole → found ≡ whole
    find_end h l left = sym (found_none start σ r found) ∙ (rw (rest_end i h l) at left)

    module _ (e : Element) (found' : Found) (more : i < reading.null) (is : e ≡ element_at s i) (left : found_in start σ r found (rest i) ≡ whole) where
      go_on : (next : Element) (then : Found) → found' ≡ then → next ≡ element_at s (i + 1) → then ≡ found_in start σ r found (interval_to e next ∷ []) → found_in start σ r found' (rest (i + 1)) ≡ whole
      go_on next then so is' f = rw (so ∙ f) (found_append start σ r found (interval_to e next ∷ []) (rest (i + 1)) ∙ (rw (rest_next i more e next is is') at left))

      -- .. with an interval to the SID
      pub find_next : (next : Element) (then : Found) → e.sid ≡ σ → found' ≡ then → next ≡ element_at s (i + 1) → then ≡ found_in start e.sid r found (interval_to e next ∷ []) → found_in start σ r found' (rest (i + 1)) ≡ whole
      find_next next then own so is' f = go_on next then so is' (f ∙ ap (λ (n : ℕ). found_in start n r found (interval_to e next ∷ [])) own)

      -- .. and one to another SID, which adds nothing
      pub find_other : found' ≡ found → (e.sid ≡ σ → ⊥) → found_in start σ r found' (rest (i + 1)) ≡ whole
      find_other so other = go_on (element_at s (i + 1)) found so refl (noted_other start σ r found (interval_to e (element_at s (i + 1))) other)

  -- an opportunity's offset is small
  module _ (left step : ℕ) (e next : Element) (i : ℕ) (more : i < reading.null) (is : e ≡ element_at s i) (then : next ≡ element_at s (i + 1)) (few' : left < (next.offset - e.offset) / step) where
    pub place_early : e.offset + left * step ≤ 4096
    place_early =
        let l : left * step ≤ next.offset - e.offset = place_inside (next.offset - e.offset) step left few' in
        omega (arith, rises i more e next is then, next_fits i more e next is then)

    pub place_fits : left * step < 4294967296
    place_fits = omega (arith, place_early)

    pub place_after_fits : e.offset + left * step < 4294967296
    place_after_fits = omega (arith, place_early)

  -- the contention opportunities that the rest gives
  module _ (start r : ℕ) (whole : ControlFlow MiniSlot ℕ) (left i : ℕ) where
    pub pass_end : i ≤ reading.null → reading.null ≤ i → passed_by (map (moved_on 32 start) (gather (contention_in r) (rest i))) left ≡ whole → Continue left ≡ whole
    unfolding passed_by
    pass_end h l here = rw (rest_end i h l) at here

    module _ (e : Element) (step : ℕ) (steps : step ≡ apart r e.sid e.iuc) (more : i < reading.null) (is : e ≡ element_at s i)
        (here : passed_by (map (moved_on 32 start) (gather (contention_in r) (rest i))) left ≡ whole) where
      module _ (next : Element) (then : next ≡ element_at s (i + 1)) where
        abbrev count : ℕ
        count = (next.offset - e.offset) / step

        split : passed_by (map (moved_on 32 start) (spaced e.offset step count) ++ map (moved_on 32 start) (gather (contention_in r) (rest (i + 1)))) left ≡ whole
        split = rw steps (rw (rest_next i more e next is then, contention_in_lem, map-append) at here)

        pub pass_sends : (time : MiniSlot) → left < count → time.0 ≡ moved_on 32 start (e.offset + left * step) → Break time ≡ whole
        pass_sends time h t =
            let z : time ≡ record { 0 = moved_on 32 start (e.offset + left * step) } = λ j. record { 0 = t j } in
            rw z (sym (passed_sends (moved_on 32 start) (map (moved_on 32 start) (gather (contention_in r) (rest (i + 1)))) step count e.offset left h) ∙ split)

        pub pass_next : (left' : ℕ) → left' ≡ left - count → count ≤ left → passed_by (map (moved_on 32 start) (gather (contention_in r) (rest (i + 1)))) left' ≡ whole
        pass_next left' so h = rw so (sym (passed_on (moved_on 32 start) (map (moved_on 32 start) (gather (contention_in r) (rest (i + 1)))) step count e.offset left h) ∙ split)

      -- an interval without contention opportunities
      pub pass_none : (left' : ℕ) → left' ≡ left → step ≡ 0 → passed_by (map (moved_on 32 start) (gather (contention_in r) (rest (i + 1)))) left' ≡ whole
      pass_none left' so z =
          let none : ((element_at s (i + 1)).offset - e.offset) / step ≡ 0 = rw z (div-zero ((element_at s (i + 1)).offset - e.offset)) in
          pass_next (element_at s (i + 1)) refl left' (rw none (so ∙ sym (sub-zero left))) (omega (arith, none))

  -- whether there is a pending
  pub pending_any : (σ : ℕ) → list_any (λ i. grants σ (element_at s i).sid (element_at s i).iuc) (range_with_len (reading.null + 1) (reading.n - (reading.null + 1))) ≡ not (is_empty (pendings_to σ (map_of s).elements))
  unfolding pendings_to
  pending_any σ = any_kept (λ e. grants σ e.sid e.iuc) (element_at s) (reading.null + 1) (reading.n - (reading.null + 1)) ∙ rw ((accepted s reading ok).elements, after_null_lem (element_at s) reading.n reading.null reading.length (accepted s reading ok).frame) refl

module _ (i : ℕ) (found found' : Found) (h : found.bursts ≤ i) where
  pub find_few : (start σ r : ℕ) (k : Interval) (then : Found) → found' ≡ then → then ≡ found_in start σ r found (k ∷ []) → found'.bursts ≤ i + 1
  unfolding found_in
  find_few start σ r k then so e = rw (so ∙ e) (go (grants σ k.sid k.iuc))
    where
      go : (b : Bool) → found.bursts + length (cond b (k ∷ []) []) ≤ i + 1
      go true = omega arith
      go false = omega arith

  pub find_same : found' ≡ found → found'.bursts ≤ i + 1
  find_same so = rw so (omega arith)

-- the ways to an interval's step
module _ (r sid iuc : ℕ) where
  pub step_broadcast : iuc ≡ 1 → sid ≡ 0x3FFF → r ≡ apart r sid iuc
  unfolding apart
  step_broadcast h k = rw (h, k) refl

  pub step_request : iuc ≡ 1 → (sid ≡ 0x3FFF → ⊥) → 0 ≡ apart r sid iuc
  unfolding apart
  step_request h k = rw (h, ne_eqb sid 0x3FFF k) refl

  pub step_other : (iuc ≡ 1 → ⊥) → (iuc ≡ 2 → ⊥) → 0 ≡ apart r sid iuc
  unfolding apart
  step_other h k = rw (ne_eqb iuc 1 h, ne_eqb iuc 2 k) refl

  module _ (h : iuc ≡ 2) (w : Bool) (is : w ≡ within 0x3FF1 0x3FFE sid) where
    pub step_outside : w ≡ false → 0 ≡ apart r sid iuc
    unfolding apart
    step_outside k = rw (h, ← is, k) refl

    pub step_small : w ≡ true → sid - 0x3FF0 < r → 0 ≡ apart r sid iuc
    unfolding apart
    step_small k m = rw (h, ← is, k, lt-ltb (sid - 0x3FF0) r m) refl

    pub step_data : w ≡ true → r ≤ sid - 0x3FF0 → sid - 0x3FF0 ≡ apart r sid iuc
    unfolding apart
    step_data k m = rw (h, ← is, k, le-ltb (sid - 0x3FF0) r m) refl

pub ruleset scan_ways = (said, said_not, not-true, noted_burst, noted_nothing, noted_own, step_broadcast, step_request, step_other, step_outside, step_small, step_data)
