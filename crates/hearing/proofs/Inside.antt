-- Every opportunity, with its r mini-slots, lies inside its interval.
use mathlib.Core.Path.{◌≡◌, refl}
use mathlib.Core.Bool.{Bool, true, false, cond, ◌&&◌}
use mathlib.Core.Logic.{◌⊎◌, inl, inr}
use mathlib.Core.List.Memᴰ
use mathlib.Core.List.{List, [], ◌∷◌, ◌++◌, map, Memᴰ}
use Prim.Native.Nat.{ℕ, zero, suc, ◌+◌, ◌-◌, ◌*◌, ◌/◌, ◌≤◌, ◌<◌}
use native.Mathlib.Nat.{zero-mul, suc-mul, div-zero, div-mul-le_self, mul-le-mul_right}
use native.Mathlib.Omega.{arith}
use lib.Dec.{leb, ltb, eqb}
use borrow.Author.Tests.{leb-true, ltb-false}
use Rattle.rules.specs.Sids.{within}
use Rattle.message.specs.Lists.{gather}
use Rattle.message.specs.Map.{Map, Interval, intervals, time_at}
use Rattle.hearing.specs.Opportunities.{spaced, contention_in, own_in, contention, own}
use Rattle.hearing.specs.Scan.{apart}
use Rattle.hearing.proofs.Scanning.{contention_in_lem}

module _ {A B : Type 0} where
  map_origin : (f : A → B) (xs : List A) (y : B) → Memᴰ y (map f xs) → (x : A) × Memᴰ x xs × (y ≡ f x)
  map_origin f [] y m = absurd (Memᴰ.not-nil m)
  map_origin f (x ∷ xs) y m = go (Memᴰ.cases_cons m) (λ m'. map_origin f xs y m')
    where
      go : (y ≡ f x) ⊎ Memᴰ y (map f xs) → (Memᴰ y (map f xs) → (z : A) × Memᴰ z xs × (y ≡ f z)) → (z : A) × Memᴰ z (x ∷ xs) × (y ≡ f z)
      go (inl e) more = (x, Memᴰ.head refl, e)
      go (inr m') more = let o = more m' in (o.0, Memᴰ.tail o.1, o.2)

  gather_origin : (f : A → List B) (xs : List A) (y : B) → Memᴰ y (gather f xs) → (x : A) × Memᴰ x xs × Memᴰ y (f x)
  gather_origin f [] y m = absurd (Memᴰ.not-nil m)
  gather_origin f (x ∷ xs) y m = go (Memᴰ.append_cases (f x) m) (λ m'. gather_origin f xs y m')
    where
      go : Memᴰ y (f x) ⊎ Memᴰ y (gather f xs) → (Memᴰ y (gather f xs) → (z : A) × Memᴰ z xs × Memᴰ y (f z)) → (z : A) × Memᴰ z (x ∷ xs) × Memᴰ y (f z)
      go (inl m') more = (x, Memᴰ.head refl, m')
      go (inr m') more = let o = more m' in (o.0, Memᴰ.tail o.1, o.2)

-- a place among count of them, step apart
spaced_place : (step count first o : ℕ) → Memᴰ o (spaced first step count) → (j : ℕ) × (j < count) × (o ≡ first + j * step)
unfolding spaced
spaced_place step zero first o m = absurd (Memᴰ.not-nil m)
spaced_place step (suc count) first o m = go (Memᴰ.cases_cons m) (λ m'. spaced_place step count (first + step) o m')
  where
    go : (o ≡ first) ⊎ Memᴰ o (spaced (first + step) step count) → (Memᴰ o (spaced (first + step) step count) → (j : ℕ) × (j < count) × (o ≡ first + step + j * step)) →
        (j : ℕ) × (j < suc count) × (o ≡ first + j * step)
    go (inl e) more = (0, omega arith, rw (zero-mul step) (omega arith))
    go (inr m') more = let q = more m' in (suc q.0, omega (arith, q.1), rw (suc-mul q.0 step) (omega (arith, q.2)))

-- an interval that gives opportunities gives them at least r apart
apart_wide : (r sid iuc : ℕ) → (r ≤ apart r sid iuc) ⊎ (apart r sid iuc ≡ 0)
unfolding apart
apart_wide r sid iuc = go (eqb iuc 1 && eqb sid 0x3FFF) (eqb iuc 2 && within 0x3FF1 0x3FFE sid) (ltb (sid - 0x3FF0) r) refl
  where
    go : (a b c : Bool) → ltb (sid - 0x3FF0) r ≡ c → (r ≤ cond a r (cond b (cond c 0 (sid - 0x3FF0)) 0)) ⊎ (cond a r (cond b (cond c 0 (sid - 0x3FF0)) 0) ≡ 0)
    go true b c e = inl (omega arith)
    go false true true e = inr refl
    go false true false e = inl (ltb-false (sid - 0x3FF0) r e)
    go false false c e = inr refl

module _ (r : ℕ) (k : Interval) (o : ℕ) where
  pub contention_inside : Memᴰ o (contention_in r k) → (k.first ≤ o) × (o + r ≤ k.first + k.length)
  contention_inside m = go (apart_wide r k.sid k.iuc) (spaced_place (apart r k.sid k.iuc) (k.length / apart r k.sid k.iuc) k.first o (rw (contention_in_lem r k) at m))
    where
      step : ℕ
      step = apart r k.sid k.iuc

      go : (r ≤ step) ⊎ (step ≡ 0) → (j : ℕ) × (j < k.length / step) × (o ≡ k.first + j * step) → (k.first ≤ o) × (o + r ≤ k.first + k.length)
      go (inr z) (j, l, e) = let none : k.length / step ≡ 0 = rw z (div-zero k.length) in absurd (omega arith)
      go (inl h) (j, l, e) =
          let all : suc j * step ≤ k.length / step * step = mul-le-mul_right step (omega arith) in
          let fits : k.length / step * step ≤ k.length = div-mul-le_self k.length step in
          let one : suc j * step ≡ j * step + step = suc-mul j step in (omega arith, omega arith)

  pub own_inside : (σ : ℕ) → Memᴰ o (own_in σ r k) → (k.first ≤ o) × (o + r ≤ k.first + k.length)
  unfolding own_in
  own_inside σ m = go (eqb k.iuc 1 && eqb k.sid σ) (leb r k.length) refl m
    where
      go : (a b : Bool) → leb r k.length ≡ b → Memᴰ o (cond (a && b) (k.first ∷ []) []) → (k.first ≤ o) × (o + r ≤ k.first + k.length)
      go true true e n = let z : o ≡ k.first = Memᴰ.eq_of_singleton n in let l = leb-true r k.length e in (omega arith, omega arith)
      go true false e n = absurd (Memᴰ.not-nil n)
      go false b e n = absurd (Memᴰ.not-nil n)

-- an opportunity of a MAP, by the interval that gives it and its offset
pub record Within (r : ℕ) (m : Map) (t : ℕ) : Type 0 where
  pub interval : Interval
  pub there : Memᴰ interval (intervals m.elements)
  pub offset : ℕ
  pub time : t ≡ time_at m offset
  pub from : interval.first ≤ offset
  pub to : offset + r ≤ interval.first + interval.length

module _ (f : Interval → List ℕ) (r : ℕ) (m : Map) (t : ℕ) (inside : (k : Interval) (o : ℕ) → Memᴰ o (f k) → (k.first ≤ o) × (o + r ≤ k.first + k.length)) where
  gathered_within : Memᴰ t (map (time_at m) (gather f (intervals m.elements))) → Within r m t
  gathered_within h =
      let a = map_origin (time_at m) (gather f (intervals m.elements)) t h in
      let b = gather_origin f (intervals m.elements) a.0 a.1 in
      let c = inside b.0 a.0 b.2 in record { interval = b.0; there = b.1; offset = a.0; time = a.2; from = c.0; to = c.1 }

-- what hearing sends in
pub chance_within : (σ r : ℕ) (m : Map) (t : ℕ) → Memᴰ t (own σ r m ++ contention r m) → Within r m t
unfolding own contention
chance_within σ r m t h = go (Memᴰ.append_cases (own σ r m) h)
  where
    go : Memᴰ t (own σ r m) ⊎ Memᴰ t (contention r m) → Within r m t
    go (inl a) = gathered_within (own_in σ r) r m t (λ k o. own_inside r k o σ) a
    go (inr b) = gathered_within (contention_in r) r m t (contention_inside r) b
