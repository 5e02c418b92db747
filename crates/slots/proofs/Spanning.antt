-- The span kept as MAPs are added is the span of all of them, whatever their order. Over any width w.
use Rattle.std.proofs.Common.{◌≡◌, ℕ, ◌+◌, ◌-◌, ◌%◌, ◌^◌, ◌<◌, ◌≤◌, Bool, true, false, cond, ◌&&◌, ltb, ◌⊎◌, List, [], ◌∷◌, ◌++◌, sym, refl, ap, ◌∙◌, subst, inl, inr, true≢false, arith, pow_pos, ltb-false, ltb-true, lt-ltb}
use mathlib.Core.Bool.{false≢true}
use mathlib.Core.List.Memᴰ
use mathlib.Core.List.{Memᴰ}
use native.Mathlib.Nat.{mod-mod}
use Rattle.slots.specs.declared.span.Span.{Span}
use Rattle.slots.specs.declared.span.Span.TheVariants.{Nothing, Lost}
use Rattle.slots.specs.Time.{ahead, half}
use Rattle.slots.specs.Span.{Described, end_of, within, both, qualifies, further, furthest}
use Rattle.slots.specs.Span.{over, span_from, span_of, widened, added, added_all}
use Rattle.slots.proofs.Rolling.{order, Leads, two_halves, ahead_leads, ahead_self, ahead_back}
use Rattle.slots.proofs.Rolling.{ahead_chain, ahead_same, ahead_from, same_ahead, moved_ahead}

infix 4 ◌∈◌
abbrev pub ◌∈◌ : Described → List Described → Type 0
m ∈ ms = Memᴰ m ms

-- what holds for each MAP of a list
abbrev pub Every : (Described → Type 0) → List Described → Type 0
Every P ms = (m : Described) → m ∈ ms → P m

-- the same MAPs, in any order
abbrev pub Same : List Described → List Described → Type 0
Same ms ns = Every (λ m. m ∈ ns) ms × Every (λ m. m ∈ ms) ns

-- MAPs shorter than half of the clock
abbrev pub Fit : ℕ → List Described → Type 0
Fit w ms = Every (λ m. m.length < half w) ms

here : {m : Described} {ms : List Described} → m ∈ (m ∷ ms)
here = Memᴰ.head refl

every_nil : (P : Described → Type 0) → Every P []
every_nil P m i = absurd (Memᴰ.not-nil i)

every_cons : (P : Described → Type 0) (m : Described) (ms : List Described) → P m → Every P ms → Every P (m ∷ ms)
every_cons P m ms now then x i = go (Memᴰ.cases_cons i)
  where
    go : (x ≡ m) ⊎ (x ∈ ms) → P x
    go (inl e) = subst P (sym e) now
    go (inr k) = then x k

every_tail : (P : Described → Type 0) (m : Described) (ms : List Described) → Every P (m ∷ ms) → Every P ms
every_tail P m ms h x i = h x (Memᴰ.tail i)

and_means : (a b : Bool) → (a && b) ≡ true → (a ≡ true) × (b ≡ true)
and_means true b e = (refl, e)
and_means false b e = absurd (false≢true e)

and_says : (a b : Bool) → a ≡ true → b ≡ true → (a && b) ≡ true
and_says true b p q = q
and_says false b p q = p

clash : {A : Type 0} (b : Bool) → b ≡ true → b ≡ false → A
clash b p q = absurd (true≢false (sym p ∙ q))

module _ (w : ℕ) where
  pub lost_stays : (ms : List Described) → added_all w Lost ms ≡ Lost
  unfolding added_all added
  lost_stays [] = refl
  lost_stays (m ∷ ms) = lost_stays ms

  added_append : (ms ns : List Described) (p : Span) → added_all w p (ms ++ ns) ≡ added_all w (added_all w p ms) ns
  unfolding added_all
  added_append [] ns p = refl
  added_append (m ∷ ms) ns p = added_append ms ns (added w p m.start m.length)

  -- x and y lie less than half of the clock ahead of e
  abbrev Both : ℕ → ℕ → ℕ → Type 0
  Both e x y = (ahead w e x < half w) × (ahead w e y < half w)

  -- .. as a MAP's start and end do
  abbrev Before : ℕ → Described → Type 0
  Before e m = Both e m.start (end_of w m)

  -- the tests, and what they tell
  within_means : (e x : ℕ) → within w e x ≡ true → ahead w e x < half w
  unfolding within
  within_means e x h = ltb-true (ahead w e x) (half w) h

  within_says : (e x : ℕ) → ahead w e x < half w → within w e x ≡ true
  unfolding within
  within_says e x h = lt-ltb (ahead w e x) (half w) h

  both_means : (e x y : ℕ) → both w e x y ≡ true → Both e x y
  both_means e x y h =
      let a = and_means (within w e x) (within w e y) h in
      (within_means e x a.0, within_means e y a.1)

  both_says : (e x y : ℕ) → Both e x y → both w e x y ≡ true
  both_says e x y (h, k) = and_says (within w e x) (within w e y) (within_says e x h) (within_says e y k)

  qualifies_means : (e : ℕ) (ms : List Described) → qualifies w ms e ≡ true → Every (Before e) ms
  unfolding qualifies
  qualifies_means e [] h = every_nil (Before e)
  qualifies_means e (m ∷ ms) h =
      let a = and_means (within w e m.start) (within w e (end_of w m) && qualifies w ms e) h in
      let b = and_means (within w e (end_of w m)) (qualifies w ms e) a.1 in
      every_cons (Before e) m ms
      (within_means e m.start a.0, within_means e (end_of w m) b.0)
      (qualifies_means e ms b.1)

  qualifies_says : (e : ℕ) (ms : List Described) → Every (Before e) ms → qualifies w ms e ≡ true
  unfolding qualifies
  qualifies_says e [] h = refl
  qualifies_says e (m ∷ ms) h =
      let a = within_says e m.start (h m here).0 in
      let b = within_says e (end_of w m) (h m here).1 in
      simp (a, b, qualifies_says e ms (every_tail (Before e) m ms h))

  -- r is the further of two times x and y
  abbrev Further : ℕ → ℕ → ℕ → ℕ → Type 0
  Further e x y r = ((r ≡ x) × (ahead w e y ≤ ahead w e x)) ⊎ ((r ≡ y) × (ahead w e x < ahead w e y))

  further_is : (e x y : ℕ) → Further e x y (further w e x y)
  unfolding further
  further_is e x y = go (ltb (ahead w e x) (ahead w e y)) refl
    where
      go : (b : Bool) → ltb (ahead w e x) (ahead w e y) ≡ b → Further e x y (cond b y x)
      go true h = inr (refl, ltb-true (ahead w e x) (ahead w e y) h)
      go false h = inl (refl, ltb-false (ahead w e x) (ahead w e y) h)

  -- a MAP that ends no further ahead of e than l
  abbrev Below : ℕ → ℕ → Described → Type 0
  Below e l m = ahead w e (end_of w m) ≤ ahead w e l

  -- l is the end of one of the MAPs, and the furthest of their ends
  record Ends (e : ℕ) (ms : List Described) (l : ℕ) : Type 0 where
    last : Described
    one : last ∈ ms
    ends : l ≡ end_of w last
    most : Every (Below e l) ms

  -- the same last MAP, seen from another time or in another list
  ends_still : (e d : ℕ) (ms ns : List Described) (l : ℕ) (t : Ends e ms l) → t.last ∈ ns → Every (Below d l) ns → Ends d ns l
  ends_still e d ms ns l t i h = record { last = t.last; one = i; ends = t.ends; most = h }

  module _ (e : ℕ) (m : Described) (ms : List Described) where
    ends_new : Every (Below e (end_of w m)) ms → Ends e (m ∷ ms) (end_of w m)
    ends_new h = record { last = m; one = here; ends = refl; most = every_cons (Below e (end_of w m)) m ms (omega arith) h }

    module _ (l : ℕ) (t : Ends e ms l) where
      ends_older : Below e l m → Ends e (m ∷ ms) l
      ends_older h = ends_still e e ms (m ∷ ms) l t (Memᴰ.tail t.one) (every_cons (Below e l) m ms h t.most)

      ends_newer : ahead w e l ≤ ahead w e (end_of w m) → Ends e (m ∷ ms) (end_of w m)
      ends_newer h = ends_new (λ x i. let k = t.most x i in omega arith)

      further_ends : Ends e (m ∷ ms) (further w e l (end_of w m))
      further_ends = go (further_is e l (end_of w m))
        where
          go : Further e l (end_of w m) (further w e l (end_of w m)) → Ends e (m ∷ ms) (further w e l (end_of w m))
          go (inl (f, h)) = rw f (ends_older h)
          go (inr (f, h)) = rw f (ends_newer (omega arith))

  furthest_ends : (e : ℕ) (m : Described) (ms : List Described) → Ends e (m ∷ ms) (furthest w (m ∷ ms) e)
  unfolding furthest
  furthest_ends e m [] = go (further_is e (end_of w m) e)
    where
      go : Further e (end_of w m) e (further w e (end_of w m) e) → Ends e (m ∷ []) (further w e (end_of w m) e)
      go (inl (f, h)) = rw f (ends_new e m [] (every_nil (Below e (end_of w m))))
      go (inr (f, h)) = absurd (omega (arith, ahead_self w e))
  furthest_ends e m (n ∷ ns) = go (further_is e (end_of w m) (furthest w (n ∷ ns) e)) (furthest_ends e n ns)
    where
      l : ℕ
      l = furthest w (n ∷ ns) e

      go : Further e (end_of w m) l (further w e (end_of w m) l) → Ends e (n ∷ ns) l → Ends e (m ∷ n ∷ ns) (further w e (end_of w m) l)
      go (inl (f, h)) t = rw f (ends_newer e m (n ∷ ns) l t h)
      go (inr (f, h)) t = rw f (ends_older e m (n ∷ ns) l t (omega arith))

  -- two ends furthest ahead are one
  one_end : (e : ℕ) (ms : List Described) (l k : ℕ) → Ends e ms l → Ends e ms k → l ≡ k
  one_end e ms l k t u =
      let a : ahead w e l ≤ ahead w e k = rw t.ends (u.most t.last t.one) in
      let b : ahead w e k ≤ ahead w e l = rw u.ends (t.most u.last u.one) in
      counted l t ∙ same_ahead w e l k (omega arith) ∙ sym (counted k u)
    where
      counted : (n : ℕ) → Ends e ms n → n ≡ n % 2 ^ w
      counted n v = rw v.ends (sym (mod-mod _ (2 ^ w)))

  -- only the count matters
  module _ (c d : ℕ) (e : c % 2 ^ w ≡ d % 2 ^ w) (ms : List Described) where
    before_from : Every (Before c) ms → Every (Before d) ms
    before_from h x i =
        (rw (ahead_from w c d x.start e) at (h x i).0, rw (ahead_from w c d (end_of w x) e) at (h x i).1)

    ends_from : (l : ℕ) → Ends c ms l → Ends d ms l
    ends_from l t =
        ends_still c d ms ms l t t.one
        (λ x i. rw (ahead_from w c d (end_of w x) e, ahead_from w c d l e) at (t.most x i))

  -- a MAP whose start does not qualify
  abbrev Fails : List Described → Described → Type 0
  Fails ms x = Every (Before (x.start % 2 ^ w)) ms → ⊥

  -- p is the span of these MAPs; of the list it matters only who is in it
  data Tracks (ms : List Described) (p : Span) : Type 0 where
    nothing : p ≡ Nothing → Every (λ x. ⊥) ms → Tracks ms p
    lost : p ≡ Lost → (m : Described) → m ∈ ms → Every (Fails ms) ms → Tracks ms p
    spans : (e l : ℕ) (first : Described) → p ≡ over w e l → e ≡ first.start % 2 ^ w → first ∈ ms → Every (Before e) ms → Ends e ms l → Tracks ms p

  same_tracks : (ms ns : List Described) → Same ms ns → (p : Span) → Tracks ms p → Tracks ns p
  same_tracks ms ns (to, back) p (nothing e n) = nothing e (λ x i. n x (back x i))
  same_tracks ms ns (to, back) p (lost e m i n) = lost e m (to m i) (λ x k h. n x (back x k) (λ y j. h y (to y j)))
  same_tracks ms ns (to, back) p (spans e l a f g i h t) =
      spans e l a f g (to a i) (λ x k. h x (back x k))
      (ends_still e e ms ns l t (to t.last t.one) (λ x k. t.most x (back x k)))

  -- the definition's span is one: a MAP that is not among the rest was tried before, and failed
  module _ (all : List Described) (m₀ : Described) (i₀ : m₀ ∈ all) (ended : (e : ℕ) → Ends e all (furthest w all e)) where
    abbrev Tried : List Described → Type 0
    Tried rest = Every (λ x. (x ∈ rest) ⊎ Fails all x) all

    from_tracks : (rest : List Described) → Every (λ x. x ∈ all) rest → Tried rest → Tracks all (span_from w all rest)
    unfolding span_from
    from_tracks [] among tried = lost refl m₀ i₀ (λ x i. go x (tried x i))
      where
        go : (x : Described) → (x ∈ []) ⊎ Fails all x → Fails all x
        go x (inl k) = absurd (Memᴰ.not-nil k)
        go x (inr n) = n
    from_tracks (m ∷ ms) among tried =
        go (qualifies w all (m.start % 2 ^ w)) refl (from_tracks ms (every_tail (λ x. x ∈ all) m ms among))
      where
        e : ℕ
        e = m.start % 2 ^ w

        failed : qualifies w all e ≡ false → (x : Described) → (x ∈ (m ∷ ms)) ⊎ Fails all x → (x ∈ ms) ⊎ Fails all x
        failed q x (inr n) = inr n
        failed q x (inl k) = left (Memᴰ.cases_cons k)
          where
            left : (x ≡ m) ⊎ (x ∈ ms) → (x ∈ ms) ⊎ Fails all x
            left (inl f) = inr (λ h. clash (qualifies w all e) (qualifies_says e all (rw f at h)) q)
            left (inr j) = inl j

        go : (b : Bool) → qualifies w all e ≡ b → (Tried ms → Tracks all (span_from w all ms)) →
            Tracks all (cond b (over w e (furthest w all e)) (span_from w all ms))
        go true q next = spans e (furthest w all e) m refl refl (among m here) (qualifies_means e all q) (ended e)
        go false q next = next (λ x i. failed q x (tried x i))

  span_tracks : (ms : List Described) → Tracks ms (span_of w ms)
  unfolding span_of
  span_tracks [] = nothing refl (every_nil (λ x. ⊥))
  span_tracks (m ∷ ms) = from_tracks (m ∷ ms) m here (λ e. furthest_ends e m ms) (m ∷ ms) (λ x i. i) (λ x i. inl i)

  module _ (some : 1 ≤ w) where
    -- two times before each other are one
    level : (a b : ℕ) → ahead w a b < half w → ahead w b a < half w → a % 2 ^ w ≡ b % 2 ^ w
    level a b h k = same_ahead w a a b (ahead_self w a ∙ sym (go (ahead_back w a b)))
      where
        go : ((ahead w a b ≡ 0) × (ahead w b a ≡ 0)) ⊎ (ahead w a b + ahead w b a ≡ 2 ^ w) → ahead w a b ≡ 0
        go (inl p) = p.0
        go (inr p) = absurd (omega (arith, two_halves w some))

    module _ (ms : List Described) (x y : Described) (i : x ∈ ms) (k : y ∈ ms) where
      together : Every (Before (x.start % 2 ^ w)) ms → Every (Before (y.start % 2 ^ w)) ms → x.start % 2 ^ w ≡ y.start % 2 ^ w
      together p q = level x.start y.start (plain x p y k).0 (plain y q x i).0
        where
          plain : (z : Described) → Every (Before (z.start % 2 ^ w)) ms → Every (Before z.start) ms
          plain z h = before_from (z.start % 2 ^ w) z.start (mod-mod z.start (2 ^ w)) ms h

      -- at most one start qualifies
      pub one_start : qualifies w ms (x.start % 2 ^ w) ≡ true → qualifies w ms (y.start % 2 ^ w) ≡ true → x.start % 2 ^ w ≡ y.start % 2 ^ w
      one_start p q = together (qualifies_means (x.start % 2 ^ w) ms p) (qualifies_means (y.start % 2 ^ w) ms q)

    one_span : (ms : List Described) (p q : Span) → Tracks ms p → Tracks ms q → p ≡ q
    one_span ms p q (nothing e n) (nothing f k) = e ∙ sym f
    one_span ms p q (nothing e n) (lost f m i k) = absurd (n m i)
    one_span ms p q (nothing e n) (spans c l a f g i h t) = absurd (n a i)
    one_span ms p q (lost e m i n) (nothing f k) = absurd (k m i)
    one_span ms p q (lost e m i n) (lost f o j k) = e ∙ sym f
    one_span ms p q (lost e m i n) (spans c l a f g k h t) = absurd (n a k (rw g at h))
    one_span ms p q (spans c l a f g i h t) (nothing e n) = absurd (n a i)
    one_span ms p q (spans c l a f g i h t) (lost e m k n) = absurd (n a i (rw g at h))
    one_span ms p q (spans c l a f g i h t) (spans d k b f' g' i' h' t') =
        let e : c ≡ d = g ∙ together ms a b i i' (rw g at h) (rw g' at h') ∙ sym g' in
        f ∙ ap (λ n. over w n l) e ∙ ap (λ n. over w d n) (one_end d ms l k (rw e at t) t') ∙ sym f'

    -- what lies no nearer ahead of s than y does lies ahead of y
    nearer : (s y z : ℕ) → ahead w s y ≤ ahead w s z → ahead w s z < half w → ahead w y z < half w
    nearer s y z h k = go (ahead_leads w s y z)
      where
        go : Leads (2 ^ w) (ahead w s y) (ahead w s z) (ahead w y z) → ahead w y z < half w
        go (inl p) = omega arith
        go (inr p) = absurd (omega arith)

    -- a MAP too short for its end to come round to its start
    end_ahead : (e : ℕ) (m : Described) → m.length < half w → ahead w e m.start < half w → ahead w e (end_of w m) ≡ ahead w e m.start + m.length
    end_ahead e m h k = moved_ahead w e m.start m.length (omega (arith, two_halves w some))

    -- no MAP starts nearer ahead of s than y
    abbrev Nearest : ℕ → List Described → Described → Type 0
    Nearest s ms y = Every (λ x. ahead w s y.start ≤ ahead w s x.start) ms

    nearest_cons : (s : ℕ) (m : Described) (ms : List Described) (y : Described) → ahead w s y.start ≤ ahead w s m.start → Nearest s ms y → Nearest s (m ∷ ms) y
    nearest_cons s m ms y h k = every_cons (λ x. ahead w s y.start ≤ ahead w s x.start) m ms h k

    -- .. and y is one of them
    abbrev Found : ℕ → List Described → Type 0
    Found s ms = (y : Described) × (y ∈ ms) × Nearest s ms y

    nearest : (s : ℕ) (m : Described) (ms : List Described) → Found s (m ∷ ms)
    nearest s m [] = (m, here, nearest_cons s m [] m (omega arith) (λ x i. absurd (Memᴰ.not-nil i)))
    nearest s m (n ∷ ns) = go (nearest s n ns)
      where
        go : Found s (n ∷ ns) → Found s (m ∷ n ∷ ns)
        go (y, i, h) = pick (order (ahead w s m.start) (ahead w s y.start))
          where
            pick : (ahead w s m.start ≤ ahead w s y.start) ⊎ (ahead w s y.start < ahead w s m.start) → Found s (m ∷ n ∷ ns)
            pick (inl k) = (m, here, nearest_cons s m (n ∷ ns) m (omega arith) (λ x j. let g = h x j in omega arith))
            pick (inr k) = (y, Memᴰ.tail i, nearest_cons s m (n ∷ ns) y (omega arith) h)

    -- if s comes before all of them, so does the start nearest ahead of it
    none_before : (s : ℕ) (ms : List Described) (m : Described) → m ∈ ms → Fit w ms → Every (Fails ms) ms → Every (Before s) ms → ⊥
    none_before s [] m i fit n h = Memᴰ.not-nil i
    none_before s (k ∷ ks) m i fit n h = go (nearest s k ks)
      where
        go : Found s (k ∷ ks) → ⊥
        go (y, j, near) = n y j (before_from y.start (y.start % 2 ^ w) (sym (mod-mod y.start (2 ^ w))) (k ∷ ks) all)
          where
            all : Every (Before y.start) (k ∷ ks)
            all x o =
                let a = h x o in
                let b = near x o in
                let c = end_ahead s x (fit x o) a.0 in
                (nearer s y.start x.start b a.0, nearer s y.start (end_of w x) (omega arith) a.1)

    -- a MAP more
    module _ (m : Described) (ms : List Described) (fit : Fit w (m ∷ ms)) where
      own : Before m.start m
      own =
          let z = ahead_self w m.start in
          let p = pow_pos (w - 1) in
          let e = end_ahead m.start m (fit m here) (omega arith) in
          let l = fit m here in
          (omega arith, omega arith)

      counted : m.start % 2 ^ w ≡ m.start % 2 ^ w % 2 ^ w
      counted = sym (mod-mod m.start (2 ^ w))

      -- .. from whose start all of them are reached
      from_new : (l : ℕ) → Every (Before m.start) ms → Ends m.start (m ∷ ms) l → Tracks (m ∷ ms) (over w (m.start % 2 ^ w) l)
      from_new l h t =
          let s = m.start in
          spans (s % 2 ^ w) l m refl refl here
          (before_from s (s % 2 ^ w) counted (m ∷ ms) (every_cons (Before s) m ms own h))
          (ends_from s (s % 2 ^ w) counted (m ∷ ms) l t)

      step_first : Every (λ x. ⊥) ms → Tracks (m ∷ ms) (added w Nothing m.start m.length)
      unfolding added
      step_first n = from_new (end_of w m) (λ x i. absurd (n x i)) (ends_new m.start m ms (λ x i. absurd (n x i)))

      step_lost : (k : Described) → k ∈ ms → Every (Fails ms) ms → Tracks (m ∷ ms) (added w Lost m.start m.length)
      unfolding added
      step_lost k i n =
          lost refl m here
          (every_cons (Fails (m ∷ ms)) m ms
          (λ h. none_before (m.start % 2 ^ w) ms k i (λ x j. fit x (Memᴰ.tail j)) n (λ x j. h x (Memᴰ.tail j)))
          (λ x j h. n x j (λ y o. h y (Memᴰ.tail o))))

      -- .. where the others span e to l
      module _ (e l : ℕ) (first : Described) (g : e ≡ first.start % 2 ^ w) (i : first ∈ ms) (h : Every (Before e) ms) (t : Ends e ms l) where
        step_late : both w e m.start (end_of w m) ≡ true → Tracks (m ∷ ms) (over w e (further w e l (end_of w m)))
        step_late q =
            spans e (further w e l (end_of w m)) first refl g (Memᴰ.tail i)
            (every_cons (Before e) m ms (both_means e m.start (end_of w m) q) h)
            (further_ends e m ms l t)

        below_half : ahead w e l < half w
        below_half = rw t.ends (h t.last t.one).1

        module _ (q : both w m.start e l ≡ true) where
          -- from an earlier start every distance up to l is longer by the same
          longer : (x : ℕ) → ahead w e x ≤ ahead w e l → ahead w m.start x ≡ ahead w m.start e + ahead w e x
          longer x k =
              ahead_chain w m.start e x
              (omega (arith, below_half, two_halves w some, both_means m.start e l q))

          step_early : Tracks (m ∷ ms) (over w (m.start % 2 ^ w) (further w m.start l (end_of w m)))
          step_early =
              from_new (further w m.start l (end_of w m)) reach
              (further_ends m.start m ms l (ends_still e m.start ms ms l t t.one most))
            where
              most : Every (Below m.start l) ms
              most x j = let a = t.most x j in let b = longer l (omega arith) in let c = longer (end_of w x) a in omega arith

              reach : Every (Before m.start) ms
              reach x j =
                  let a = t.most x j in
                  let b = end_ahead e x (fit x (Memᴰ.tail j)) (h x j).0 in
                  let c = longer x.start (omega arith) in
                  let d = longer (end_of w x) a in
                  let k = both_means m.start e l q in
                  let o = most x j in
                  (omega arith, omega arith)

        step_never : both w e m.start (end_of w m) ≡ false → both w m.start e l ≡ false → Every (Fails (m ∷ ms)) (m ∷ ms)
        step_never q r =
            every_cons (Fails (m ∷ ms)) m ms
            (λ k. clash (both w m.start e l) (both_says m.start e l (new k)) r)
            (λ x j k. clash (both w e m.start (end_of w m)) (both_says e m.start (end_of w m) (old x j k)) q)
          where
            new : Every (Before (m.start % 2 ^ w)) (m ∷ ms) → Both m.start e l
            new k =
                let b = before_from (m.start % 2 ^ w) m.start (sym counted) (m ∷ ms) k in
                let f = ahead_same w m.start (first.start % 2 ^ w) first.start (mod-mod first.start (2 ^ w)) in
                (rw (g, f) (b first (Memᴰ.tail i)).0, rw t.ends (b t.last (Memᴰ.tail t.one)).1)

            -- whoever comes before all the others starts with the first of them
            old : (x : Described) → x ∈ ms → Every (Before (x.start % 2 ^ w)) (m ∷ ms) → Before e m
            old x j k =
                let f = together ms first x i j (rw g at h) (every_tail (Before (x.start % 2 ^ w)) m ms k) in
                rw (g, f) (k m here)

        step_over : Tracks (m ∷ ms) (widened w e l m.start (end_of w m))
        unfolding widened
        step_over = go (both w e m.start (end_of w m)) refl (both w m.start e l) refl
          where
            early : Span
            early = over w (m.start % 2 ^ w) (further w m.start l (end_of w m))

            go : (a : Bool) → both w e m.start (end_of w m) ≡ a → (b : Bool) → both w m.start e l ≡ b →
                Tracks (m ∷ ms) (cond a (over w e (further w e l (end_of w m))) (cond b early Lost))
            go true q b r = step_late q
            go false q true r = step_early r
            go false q false r = lost refl m here (step_never q r)

      step : (p : Span) → Tracks ms p → Tracks (m ∷ ms) (added w p m.start m.length)
      unfolding added
      step p (nothing e n) = rw e (step_first n)
      step p (lost e k i n) = rw e (step_lost k i n)
      step p (spans e l a f g i h t) = rw f (step_over e l a g i h t)

    -- those seen and those to come are all
    record Parts (all seen ms : List Described) : Type 0 where
      each : Every (λ x. (x ∈ seen) ⊎ (x ∈ ms)) all
      past : Every (λ x. x ∈ all) seen
      next : Every (λ x. x ∈ all) ms

    running : (all : List Described) → Fit w all → (seen ms : List Described) → Parts all seen ms → (p : Span) → Tracks seen p → Tracks all (added_all w p ms)
    unfolding added_all
    running all fit seen [] parts p t = same_tracks seen all (parts.past, λ x i. none x (parts.each x i)) p t
      where
        none : (x : Described) → (x ∈ seen) ⊎ (x ∈ []) → x ∈ seen
        none x (inl i) = i
        none x (inr i) = absurd (Memᴰ.not-nil i)
    running all fit seen (m ∷ ms) parts p t =
        let past = every_cons (λ x. x ∈ all) m seen (parts.next m here) parts.past in
        let next = every_tail (λ x. x ∈ all) m ms parts.next in
        running all fit (m ∷ seen) ms
        (record { each = λ x i. move x (parts.each x i); past = past; next = next })
        (added w p m.start m.length)
        (step m seen (λ x i. fit x (past x i)) p t)
      where
        move : (x : Described) → (x ∈ seen) ⊎ (x ∈ (m ∷ ms)) → (x ∈ (m ∷ seen)) ⊎ (x ∈ ms)
        move x (inl i) = inl (Memᴰ.tail i)
        move x (inr i) = go (Memᴰ.cases_cons i)
          where
            go : (x ≡ m) ⊎ (x ∈ ms) → (x ∈ (m ∷ seen)) ⊎ (x ∈ ms)
            go (inl e) = inl (Memᴰ.head e)
            go (inr k) = inr k

    -- the span kept as MAPs are added one by one is document 01's span of all of them
    pub running_is_span : (ms : List Described) → Fit w ms → added_all w Nothing ms ≡ span_of w ms
    running_is_span ms fit =
        let parts : Parts ms [] ms = record { each = λ x i. inr i; past = every_nil (λ x. x ∈ ms); next = λ x i. i } in
        one_span ms (added_all w Nothing ms) (span_of w ms)
        (running ms fit [] ms parts Nothing (nothing refl (every_nil (λ x. ⊥))))
        (span_tracks ms)

    -- neither the order matters, nor whether a MAP comes twice
    pub span_any_order : (ms ns : List Described) → Same ms ns → span_of w ms ≡ span_of w ns
    span_any_order ms ns s =
        one_span ns (span_of w ms) (span_of w ns) (same_tracks ms ns s (span_of w ms) (span_tracks ms)) (span_tracks ns)

    -- one MAP has a span
    pub one_map : (m : Described) → m.length < half w → span_of w (m ∷ []) ≡ over w (m.start % 2 ^ w) (end_of w m)
    unfolding added_all added
    one_map m h =
        let short : Described → Type 0 = λ x. x.length < half w in
        sym (running_is_span (m ∷ []) (every_cons short m [] h (every_nil short)))

    -- where MAPs have no span, more of them have none
    pub lost_for_good : (ms ns : List Described) → Fit w (ms ++ ns) → span_of w ms ≡ Lost → span_of w (ms ++ ns) ≡ Lost
    lost_for_good ms ns fit e =
        let before = running_is_span ms (λ x i. fit x (Memᴰ.append_left ns i)) in
        sym (running_is_span (ms ++ ns) fit) ∙ added_append ms ns Nothing ∙ ap (λ p. added_all w p ns) (before ∙ e) ∙ lost_stays ns

-- MAPs no longer than `Span::add` takes them
pub fit_4096 : (ms : List Described) → Every (λ m. m.length ≤ 4096) ms → Fit 32 ms
fit_4096 ms h m i = let k = h m i in omega arith
