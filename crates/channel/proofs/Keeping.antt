-- What a test keeps of a list: of a sum, of a stricter test, of a list with one taken out.
use mathlib.Core.Path.{◌≡◌, refl, sym, ◌∙◌, ap, subst}
use mathlib.Core.Bool.{Bool, true, false, cond, ◌&&◌, true≢false, false≢true}
use mathlib.Core.Logic.{◌⊎◌, inl, inr}
use mathlib.Core.List.Memᴰ
use mathlib.Core.List.{List, [], ◌∷◌, ◌++◌, Memᴰ, nil≢cons, cons≢nil, head-eq_of_cons-eq, tail-eq_of_cons-eq}
use Prim.Native.Nat.{ℕ, zero, suc}
use lib.ListN.{get_or}
use Rattle.message.specs.Lists.{keep}
use Rattle.channel.specs.History.{pluck, from}

pub clash : {A : Type 0} (b : Bool) → b ≡ true → b ≡ false → A
clash b p q = absurd (true≢false (sym p ∙ q))

pub and_left : (a b : Bool) → (a && b) ≡ true → a ≡ true
and_left true b e = refl
and_left false b e = e

pub and_right : (a b : Bool) → (a && b) ≡ true → b ≡ true
and_right true b e = e
and_right false b e = absurd (false≢true e)

pub both_true : (a b : Bool) → a ≡ true → b ≡ true → (a && b) ≡ true
both_true true b p q = q
both_true false b p q = p

pub and_false : (a b : Bool) → a ≡ false → (a && b) ≡ false
and_false true b p = absurd (true≢false p)
and_false false b p = refl

-- what holds of the first and of each other
pub each_cons : {A : Type 0} (P : A → Type 0) (x : A) (xs : List A) → P x → ((y : A) → Memᴰ y xs → P y) → (y : A) → Memᴰ y (x ∷ xs) → P y
each_cons P x xs new old y m = go (Memᴰ.cases_cons m)
  where
    go : (y ≡ x) ⊎ Memᴰ y xs → P y
    go (inl e) = subst P (sym e) new
    go (inr n) = old y n

module _ {A : Type 0} where
  pub append_none : (xs ys : List A) → xs ++ ys ≡ [] → (xs ≡ []) × (ys ≡ [])
  append_none [] ys e = (refl, e)
  append_none (x ∷ xs) ys e = absurd (cons≢nil e)

  pub append_one : (xs ys : List A) (q : A) → xs ++ ys ≡ q ∷ [] → ((xs ≡ []) × (ys ≡ q ∷ [])) ⊎ ((xs ≡ q ∷ []) × (ys ≡ []))
  append_one [] ys q e = inl (refl, e)
  append_one (x ∷ xs) ys q e = let r = append_none xs ys (tail-eq_of_cons-eq e) in inr (ap₂' (head-eq_of_cons-eq e) r.0, r.1)
    where
      ap₂' : x ≡ q → xs ≡ [] → x ∷ xs ≡ q ∷ []
      ap₂' a b = cc

  module _ (p : A → Bool) where
    pub keep_stricter : (s : A → Bool) → ((x : A) → s x ≡ true → p x ≡ true) → (xs : List A) → keep s xs ≡ keep s (keep p xs)
    keep_stricter s h [] = refl
    keep_stricter s h (x ∷ xs) = go (p x) refl (s x) refl (keep_stricter s h xs)
      where
        go : (b : Bool) → p x ≡ b → (c : Bool) → s x ≡ c → keep s xs ≡ keep s (keep p xs) → cond (s x) (x ∷ keep s xs) (keep s xs) ≡ keep s (cond b (x ∷ keep p xs) (keep p xs))
        go true e c f ih = ap (λ l. cond (s x) (x ∷ l) l) ih
        go false e true f ih = clash (p x) (h x f) e
        go false e false f ih = rw f ih

    pub keep_none_at : (xs : List A) (k : ℕ) (d : A) → p d ≡ false → keep p xs ≡ [] → p (get_or xs k d) ≡ false
    keep_none_at [] k d e n = e
    keep_none_at (x ∷ xs) zero d e n = go (p x) n
      where
        go : (b : Bool) → cond b (x ∷ keep p xs) (keep p xs) ≡ [] → b ≡ false
        go true m = absurd (cons≢nil m)
        go false m = refl
    keep_none_at (x ∷ xs) (suc k) d e n = keep_none_at xs k d e (go (p x) n)
      where
        go : (b : Bool) → cond b (x ∷ keep p xs) (keep p xs) ≡ [] → keep p xs ≡ []
        go true m = absurd (cons≢nil m)
        go false m = m

    pub pluck_other : (xs : List A) (k : ℕ) (d : A) → p (get_or xs k d) ≡ false → keep p (pluck k xs) ≡ keep p xs
    pluck_other [] k d e = refl
    pluck_other (x ∷ xs) zero d e = rw e refl
    pluck_other (x ∷ xs) (suc k) d e = ap (λ l. cond (p x) (x ∷ l) l) (pluck_other xs k d e)

    pub pluck_none : (xs : List A) (k : ℕ) (d : A) → p d ≡ false → keep p xs ≡ [] → keep p (pluck k xs) ≡ []
    pluck_none xs k d e n = pluck_other xs k d (keep_none_at xs k d e n) ∙ n

    pub pluck_this : (xs : List A) (k : ℕ) (d q : A) → p d ≡ false → p (get_or xs k d) ≡ true → keep p xs ≡ q ∷ [] → (get_or xs k d ≡ q) × (keep p (pluck k xs) ≡ [])
    pluck_this [] k d q e t o = clash (p d) t e
    pluck_this (x ∷ xs) zero d q e t o = let o' : x ∷ keep p xs ≡ q ∷ [] = rw t at o in (head-eq_of_cons-eq o', tail-eq_of_cons-eq o')
    pluck_this (x ∷ xs) (suc k) d q e t o = go (p x) o (λ m. pluck_this xs k d q e t m)
      where
        go : (b : Bool) → cond b (x ∷ keep p xs) (keep p xs) ≡ q ∷ [] → (keep p xs ≡ q ∷ [] → (get_or xs k d ≡ q) × (keep p (pluck k xs) ≡ [])) → (get_or xs k d ≡ q) × (cond b (x ∷ keep p (pluck k xs)) (keep p (pluck k xs)) ≡ [])
        go true m ih = clash (p (get_or xs k d)) t (keep_none_at xs k d e (tail-eq_of_cons-eq m))
        go false m ih = ih m

    pub pluck_one : (xs : List A) (k : ℕ) (d q : A) → p d ≡ false → keep p xs ≡ q ∷ [] → (keep p (pluck k xs) ≡ q ∷ []) ⊎ (keep p (pluck k xs) ≡ [])
    pluck_one xs k d q e o = go (p (get_or xs k d)) refl
      where
        go : (b : Bool) → p (get_or xs k d) ≡ b → (keep p (pluck k xs) ≡ q ∷ []) ⊎ (keep p (pluck k xs) ≡ [])
        go true t = inr (pluck_this xs k d q e t o).1
        go false t = inl (pluck_other xs k d t ∙ o)

    -- what is kept passes the test
    pub keep_head : (xs : List A) (q : A) (rest : List A) → keep p xs ≡ q ∷ rest → p q ≡ true
    keep_head [] q rest o = absurd (nil≢cons o)
    keep_head (x ∷ xs) q rest o = go (p x) refl o (λ m. keep_head xs q rest m)
      where
        go : (b : Bool) → p x ≡ b → cond b (x ∷ keep p xs) (keep p xs) ≡ q ∷ rest → (keep p xs ≡ q ∷ rest → p q ≡ true) → p q ≡ true
        go true e m ih = rw (head-eq_of_cons-eq m) at e
        go false e m ih = ih m

    pub mem_keep : (xs : List A) (y : A) → Memᴰ y (keep p xs) → Memᴰ y xs × (p y ≡ true)
    mem_keep [] y m = absurd (Memᴰ.not-nil m)
    mem_keep (x ∷ xs) y m = go (p x) refl m (λ n. mem_keep xs y n)
      where
        go : (b : Bool) → p x ≡ b → Memᴰ y (cond b (x ∷ keep p xs) (keep p xs)) → (Memᴰ y (keep p xs) → Memᴰ y xs × (p y ≡ true)) → Memᴰ y (x ∷ xs) × (p y ≡ true)
        go true e n ih = go2 (Memᴰ.cases_cons n)
          where
            go2 : (y ≡ x) ⊎ Memᴰ y (keep p xs) → Memᴰ y (x ∷ xs) × (p y ≡ true)
            go2 (inl z) = (Memᴰ.head z, rw z e)
            go2 (inr z) = (Memᴰ.tail (ih z).0, (ih z).1)
        go false e n ih = (Memᴰ.tail (ih n).0, (ih n).1)

    pub keep_mem : (xs : List A) (y : A) → p y ≡ true → Memᴰ y xs → Memᴰ y (keep p xs)
    keep_mem [] y t m = absurd (Memᴰ.not-nil m)
    keep_mem (x ∷ xs) y t m = go (p x) refl (Memᴰ.cases_cons m) (λ n. keep_mem xs y t n)
      where
        go : (b : Bool) → p x ≡ b → (y ≡ x) ⊎ Memᴰ y xs → (Memᴰ y xs → Memᴰ y (keep p xs)) → Memᴰ y (cond b (x ∷ keep p xs) (keep p xs))
        go true e (inl z) ih = Memᴰ.head z
        go true e (inr z) ih = Memᴰ.tail (ih z)
        go false e (inl z) ih = clash (p y) t (rw z e)
        go false e (inr z) ih = ih z

    -- the only one
    pub mem_only : (xs : List A) (q : A) → keep p xs ≡ q ∷ [] → Memᴰ q xs
    mem_only xs q o = (mem_keep xs q (rw o (Memᴰ.head refl))).0

    pub keep_none : (xs : List A) → ((y : A) → Memᴰ y xs → p y ≡ false) → keep p xs ≡ []
    keep_none [] h = refl
    keep_none (x ∷ xs) h = rw (h x (Memᴰ.head refl)) (keep_none xs (λ y m. h y (Memᴰ.tail m)))

  pub pluck_mem : (xs : List A) (k : ℕ) (y : A) → Memᴰ y (pluck k xs) → Memᴰ y xs
  pluck_mem [] k y m = m
  pluck_mem (x ∷ xs) zero y m = Memᴰ.tail m
  pluck_mem (x ∷ xs) (suc k) y m = go (Memᴰ.cases_cons m) (λ n. pluck_mem xs k y n)
    where
      go : (y ≡ x) ⊎ Memᴰ y (pluck k xs) → (Memᴰ y (pluck k xs) → Memᴰ y xs) → Memᴰ y (x ∷ xs)
      go (inl e) ih = Memᴰ.head e
      go (inr n) ih = Memᴰ.tail (ih n)

  pub get_d_mem : (xs : List A) (k : ℕ) (d : A) → (get_or xs k d ≡ d) ⊎ Memᴰ (get_or xs k d) xs
  get_d_mem [] k d = inl refl
  get_d_mem (x ∷ xs) zero d = inr (Memᴰ.head refl)
  get_d_mem (x ∷ xs) (suc k) d = go (get_d_mem xs k d)
    where
      go : (get_or xs k d ≡ d) ⊎ Memᴰ (get_or xs k d) xs → (get_or xs k d ≡ d) ⊎ Memᴰ (get_or xs k d) (x ∷ xs)
      go (inl e) = inl e
      go (inr m) = inr (Memᴰ.tail m)

  pub from_mem : (xs : List A) (k : ℕ) (y : A) (ys : List A) → from k xs ≡ y ∷ ys → Memᴰ y xs
  from_mem xs zero y ys e = rw e (Memᴰ.head refl)
  from_mem [] (suc k) y ys e = absurd (nil≢cons e)
  from_mem (x ∷ xs) (suc k) y ys e = Memᴰ.tail (from_mem xs k y ys e)
