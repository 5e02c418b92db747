-- Counts that roll over: laws of the forward distance, over any width w.
use Rattle.std.proofs.Common.{◌≡◌, ℕ, zero, suc, ◌+◌, ◌-◌, ◌*◌, ◌%◌, ◌^◌, ◌<◌, ◌≤◌, Bool, true, false, ◌&&◌, ltb, leb, ◌⊎◌, sym, refl, ap, ◌∙◌, inl, inr, mod-lt, mod-eq_of_lt, arith, pow_pos, pow-add, ltb-true, le-ltb, lt-ltb, le-leb, leb-false, leb-true}
use native.Mathlib.Nat.{mod-eq-sub-mod, mod-add-mod, add-mod-mod}
use borrow.Author.Tests.{lt-leb}
use Rattle.slots.specs.Time.{ahead, half, earlier, moved_on}

pub order : (a b : ℕ) → (a ≤ b) ⊎ (b < a)
order a b = go (leb a b) refl
  where
    go : (t : Bool) → leb a b ≡ t → (a ≤ b) ⊎ (b < a)
    go true e = inl (leb-true a b e)
    go false e = inr (leb-false a b e)

-- d leads from a to b: directly, or once round the clock of m
abbrev pub Leads : ℕ → ℕ → ℕ → ℕ → Type 0
Leads m a b d = ((a ≤ b) × (d + a ≡ b)) ⊎ ((b < a) × (d + a ≡ b + m))

module _ (m : ℕ) (pos : 0 < m) where
  reduced_leads : (a b : ℕ) → a < m → b < m → Leads m a b ((b + (m - a)) % m)
  reduced_leads a b ha hb = go (order a b)
    where
      go : (a ≤ b) ⊎ (b < a) → Leads m a b ((b + (m - a)) % m)
      go (inl h) =
          let once : (b + (m - a)) % m ≡ (b + (m - a) - m) % m = mod-eq-sub-mod (omega arith) in
          let rest : (b + (m - a) - m) % m ≡ b + (m - a) - m = mod-eq_of_lt (omega arith) in inl (h, omega arith)
      go (inr h) = let rest : (b + (m - a)) % m ≡ b + (m - a) = mod-eq_of_lt (omega arith) in inr (h, omega arith)

  leads : (a b : ℕ) → Leads m (a % m) (b % m) ((b + (m - a % m)) % m)
  leads a b = rw (← mod-add-mod b m (m - a % m)) (reduced_leads (a % m) (b % m) (mod-lt a pos) (mod-lt b pos))

  -- the distance between two counts leads between their distances p and q from a third
  between : (c x y p q d : ℕ) → x < m → y < m → p < m → q < m → Leads m c x p → Leads m c y q → Leads m x y d → Leads m p q d
  between c x y p q d hx hy hp hq (inl a) (inl b) (inl e) = inl (omega arith)
  between c x y p q d hx hy hp hq (inl a) (inl b) (inr e) = inr (omega arith)
  between c x y p q d hx hy hp hq (inl a) (inr b) (inl e) = inl (omega arith)
  between c x y p q d hx hy hp hq (inl a) (inr b) (inr e) = inl (omega arith)
  between c x y p q d hx hy hp hq (inr a) (inl b) (inl e) = inr (omega arith)
  between c x y p q d hx hy hp hq (inr a) (inl b) (inr e) = inr (omega arith)
  between c x y p q d hx hy hp hq (inr a) (inr b) (inl e) = inl (omega arith)
  between c x y p q d hx hy hp hq (inr a) (inr b) (inr e) = inr (omega arith)

pub two_halves : (w : ℕ) → 1 ≤ w → half w + half w ≡ 2 ^ w
two_halves zero h = absurd (omega arith)
two_halves (suc k) h =
    let e : 2 ^ (1 + k) ≡ 2 * 2 ^ k = pow-add 2 1 k in
    let f : suc k - 1 ≡ k = omega arith in
    let g : 1 + k ≡ suc k = omega arith in
    rw (f, ← g, e) (omega arith)

module _ (w : ℕ) where
  pub ahead_lt : (a b : ℕ) → ahead w a b < 2 ^ w
  unfolding ahead
  ahead_lt a b = mod-lt _ (pow_pos w)

  -- distances from a base c, and the distance between the two
  pub ahead_leads : (c x y : ℕ) → Leads (2 ^ w) (ahead w c x) (ahead w c y) (ahead w x y)
  unfolding ahead
  ahead_leads c x y =
      between (2 ^ w) (pow_pos w) (c % 2 ^ w) (x % 2 ^ w) (y % 2 ^ w) _ _ _ (mod-lt x (pow_pos w)) (mod-lt y (pow_pos w)) (mod-lt _ (pow_pos w)) (mod-lt _ (pow_pos w))
      (leads (2 ^ w) (pow_pos w) c x) (leads (2 ^ w) (pow_pos w) c y) (leads (2 ^ w) (pow_pos w) x y)

  -- of reduced counts, the distance is what wrapping subtraction answers
  pub ahead_is : (a b r : ℕ) → r < 2 ^ w → (r + a) % 2 ^ w ≡ b → r ≡ ahead w a b
  unfolding ahead
  ahead_is a b r hr e =
      let m = 2 ^ w in
      let s = m - a % m in
      let below : a % m < m = mod-lt a (pow_pos w) in
      let one : (b + s) % m ≡ (r + a + s) % m = ap (λ (n : ℕ). (n + s) % m) (sym e) ∙ mod-add-mod (r + a) m s in
      let two : (r + s + a) % m ≡ (r + s + a % m) % m = sym (add-mod-mod (r + s) a m) in
      let three : (r + s + a % m) % m ≡ (r + m) % m = ap (λ (n : ℕ). n % m) (omega arith) in
      let four : (r + m) % m ≡ (r + m - m) % m = mod-eq-sub-mod (omega arith) in
      let five : (r + m - m) % m ≡ r = ap (λ (n : ℕ). n % m) (omega arith) ∙ mod-eq_of_lt hr in
      let swap : (r + a + s) % m ≡ (r + s + a) % m = ap (λ (n : ℕ). n % m) (omega arith) in
      sym (one ∙ swap ∙ two ∙ three ∙ four ∙ five)

  pub ahead_self : (a : ℕ) → ahead w a a ≡ 0
  ahead_self a = go (ahead_leads a a a)
    where
      go : Leads (2 ^ w) (ahead w a a) (ahead w a a) (ahead w a a) → ahead w a a ≡ 0
      go (inl p) = omega arith
      go (inr p) = omega arith

  -- there and back is once round, or nothing
  pub ahead_back : (a b : ℕ) → ((ahead w a b ≡ 0) × (ahead w b a ≡ 0)) ⊎ (ahead w a b + ahead w b a ≡ 2 ^ w)
  ahead_back a b = go (ahead_leads a b a)
    where
      go : Leads (2 ^ w) (ahead w a b) (ahead w a a) (ahead w b a) → ((ahead w a b ≡ 0) × (ahead w b a ≡ 0)) ⊎ (ahead w a b + ahead w b a ≡ 2 ^ w)
      go (inl p) = let z = ahead_self a in inl (omega arith)
      go (inr p) = let z = ahead_self a in inr (omega arith)

  -- distances add up along a chain that fits
  pub ahead_chain : (a b c : ℕ) → ahead w a b + ahead w b c < 2 ^ w → ahead w a c ≡ ahead w a b + ahead w b c
  ahead_chain a b c h = go (ahead_leads a b c)
    where
      go : Leads (2 ^ w) (ahead w a b) (ahead w a c) (ahead w b c) → ahead w a c ≡ ahead w a b + ahead w b c
      go (inl p) = omega arith
      go (inr p) = omega (arith, ahead_lt a c)

  -- only the count matters, not how often it has rolled over
  pub ahead_same : (c x y : ℕ) → x % 2 ^ w ≡ y % 2 ^ w → ahead w c x ≡ ahead w c y
  unfolding ahead
  ahead_same c x y e = sym (mod-add-mod x (2 ^ w) _) ∙ ap (λ (n : ℕ). (n + (2 ^ w - c % 2 ^ w)) % 2 ^ w) e ∙ mod-add-mod y (2 ^ w) _

  pub same_ahead : (c x y : ℕ) → ahead w c x ≡ ahead w c y → x % 2 ^ w ≡ y % 2 ^ w
  unfolding ahead
  same_ahead c x y e = go (leads (2 ^ w) (pow_pos w) c x) (leads (2 ^ w) (pow_pos w) c y)
    where
      go : Leads (2 ^ w) (c % 2 ^ w) (x % 2 ^ w) ((x + (2 ^ w - c % 2 ^ w)) % 2 ^ w) → Leads (2 ^ w) (c % 2 ^ w) (y % 2 ^ w) ((y + (2 ^ w - c % 2 ^ w)) % 2 ^ w) → x % 2 ^ w ≡ y % 2 ^ w
      go (inl p) (inl q) = omega arith
      go (inl p) (inr q) = omega (arith, mod-lt x (pow_pos w), mod-lt y (pow_pos w))
      go (inr p) (inl q) = omega (arith, mod-lt x (pow_pos w), mod-lt y (pow_pos w))
      go (inr p) (inr q) = omega arith

  pub moved_ahead : (c x n : ℕ) → ahead w c x + n < 2 ^ w → ahead w c (moved_on w x n) ≡ ahead w c x + n
  unfolding ahead
  moved_ahead c x n h =
      let s = 2 ^ w - c % 2 ^ w in
      mod-add-mod (x + n) (2 ^ w) s ∙ ap (λ (k : ℕ). k % 2 ^ w) (omega arith) ∙ sym (mod-add-mod (x + s) (2 ^ w) n) ∙ mod-eq_of_lt h

  pub moved_by : (x n : ℕ) → n < 2 ^ w → ahead w x (moved_on w x n) ≡ n
  moved_by x n h = let z = ahead_self x in moved_ahead x x n (omega arith) ∙ omega arith

  -- "earlier", from a distance and back
  pub earlier_true : (a b : ℕ) → 1 ≤ ahead w a b → ahead w a b < half w → earlier w a b ≡ true
  unfolding earlier
  earlier_true a b l h = simp (le-leb 1 (ahead w a b) l, lt-ltb (ahead w a b) (half w) h)

  pub earlier_false : (a b : ℕ) → (ahead w a b ≡ 0) ⊎ (half w ≤ ahead w a b) → earlier w a b ≡ false
  unfolding earlier
  earlier_false a b (inl h) = simp (lt-leb 1 (ahead w a b) (omega arith))
  earlier_false a b (inr h) = go (leb 1 (ahead w a b))
    where
      go : (t : Bool) → (t && ltb (ahead w a b) (half w)) ≡ false
      go true = le-ltb (ahead w a b) (half w) h
      go false = refl

  pub earlier_means : (a b : ℕ) → earlier w a b ≡ true → (1 ≤ ahead w a b) × (ahead w a b < half w)
  unfolding earlier
  earlier_means a b e = go (leb 1 (ahead w a b)) refl (ltb (ahead w a b) (half w)) refl e
    where
      go : (s : Bool) → leb 1 (ahead w a b) ≡ s → (t : Bool) → ltb (ahead w a b) (half w) ≡ t → (s && t) ≡ true → (1 ≤ ahead w a b) × (ahead w a b < half w)
      go true p true q r = (leb-true 1 (ahead w a b) p, ltb-true (ahead w a b) (half w) q)
      go true p false q r = let z : ◌≡◌ {A = Bool} false true = r in absurd (let y : ◌≡◌ {A = ℕ} 0 1 = cc in omega arith)
      go false p t q r = let z : ◌≡◌ {A = Bool} false true = r in absurd (let y : ◌≡◌ {A = ℕ} 0 1 = cc in omega arith)

  module _ (some : 1 ≤ w) where
    pub earlier_one_way : (a b : ℕ) → earlier w a b ≡ true → earlier w b a ≡ false
    earlier_one_way a b e = go (ahead_back a b)
      where
        go : ((ahead w a b ≡ 0) × (ahead w b a ≡ 0)) ⊎ (ahead w a b + ahead w b a ≡ 2 ^ w) → earlier w b a ≡ false
        go (inl p) = earlier_false b a (inl p.1)
        go (inr p) = earlier_false b a (inr (omega (arith, two_halves w some, earlier_means a b e)))

    -- half a clock apart, neither is earlier
    pub opposite : (a : ℕ) → (earlier w a (moved_on w a (half w)) ≡ false) × (earlier w (moved_on w a (half w)) a ≡ false)
    opposite a = (earlier_false a b (inr (omega (arith, apart))), go (ahead_back a b))
      where
        b : ℕ
        b = moved_on w a (half w)

        apart : ahead w a b ≡ half w
        apart = moved_by a (half w) (omega (arith, two_halves w some, pow_pos (w - 1)))

        go : ((ahead w a b ≡ 0) × (ahead w b a ≡ 0)) ⊎ (ahead w a b + ahead w b a ≡ 2 ^ w) → earlier w b a ≡ false
        go (inl p) = earlier_false b a (inl p.1)
        go (inr p) = earlier_false b a (inr (omega (arith, apart, two_halves w some)))

    -- within the half of the clock ahead of a base: earlier is less, and not behind is not more
    module _ (base x y : ℕ) (hx : ahead w base x < half w) (hy : ahead w base y < half w) where
      pub earlier_is_less : earlier w x y ≡ ltb (ahead w base x) (ahead w base y)
      earlier_is_less = go (ahead_leads base x y) (order (ahead w base y) (ahead w base x))
        where
          go : Leads (2 ^ w) (ahead w base x) (ahead w base y) (ahead w x y) → (ahead w base y ≤ ahead w base x) ⊎ (ahead w base x < ahead w base y) → earlier w x y ≡ ltb (ahead w base x) (ahead w base y)
          go (inl p) (inl q) = earlier_false x y (inl (omega arith)) ∙ sym (le-ltb (ahead w base x) (ahead w base y) q)
          go (inl p) (inr q) = earlier_true x y (omega arith) (omega arith) ∙ sym (lt-ltb (ahead w base x) (ahead w base y) q)
          go (inr p) q = earlier_false x y (inr (omega (arith, two_halves w some))) ∙ sym (le-ltb (ahead w base x) (ahead w base y) (omega arith))

      pub not_behind : ltb (ahead w x y) (half w) ≡ leb (ahead w base x) (ahead w base y)
      not_behind = go (ahead_leads base x y)
        where
          go : Leads (2 ^ w) (ahead w base x) (ahead w base y) (ahead w x y) → ltb (ahead w x y) (half w) ≡ leb (ahead w base x) (ahead w base y)
          go (inl p) = lt-ltb (ahead w x y) (half w) (omega arith) ∙ sym (le-leb (ahead w base x) (ahead w base y) p.0)
          go (inr p) = le-ltb (ahead w x y) (half w) (omega (arith, two_halves w some)) ∙ sym (lt-leb (ahead w base x) (ahead w base y) p.0)

  -- what lies no further ahead of a than n does, lies between them
  pub ahead_within : (base a n x : ℕ) → ahead w base a ≤ ahead w base n → ahead w a x ≤ ahead w a n → (ahead w base a ≤ ahead w base x) × (ahead w base x ≤ ahead w base n)
  ahead_within base a n x h k = go (ahead_leads base a n) (ahead_leads base a x)
    where
      go : Leads (2 ^ w) (ahead w base a) (ahead w base n) (ahead w a n) → Leads (2 ^ w) (ahead w base a) (ahead w base x) (ahead w a x) → (ahead w base a ≤ ahead w base x) × (ahead w base x ≤ ahead w base n)
      go (inl p) (inl q) = (omega arith, omega arith)
      go (inl p) (inr q) = (omega (arith, ahead_lt base n), omega (arith, ahead_lt base n))
      go (inr p) q = (omega arith, omega arith)

  pub ahead_from : (c d x : ℕ) → c % 2 ^ w ≡ d % 2 ^ w → ahead w c x ≡ ahead w d x
  unfolding ahead
  ahead_from c d x e = rw e refl
