-- Where a station sends: in the contention part of a MAP, or in its own grant; and that these lie apart.
use mathlib.Core.Path.{◌≡◌, refl, sym, ◌∙◌, ap, subst}
use mathlib.Core.Bool.{Bool, true, false, ◌&&◌}
use mathlib.Core.Logic.{◌⊎◌, inl, inr}
use mathlib.Core.List.Memᴰ
use mathlib.Core.List.{List, [], ◌∷◌, Memᴰ}
use Prim.Native.Nat.{ℕ, ◌+◌, ◌≤◌, ◌<◌}
use native.Mathlib.Omega.{arith}
use lib.Dec.{eqb}
use borrow.Author.Tests.{eqb-true}
use Rattle.slots.specs.Time.{moved_on}
use Rattle.rules.specs.Rules.{granting}
use Rattle.message.specs.Map.{Map, Interval, intervals, grants_to, time_at}
use Rattle.station.specs.declared.record.Station.{Station}
use Rattle.hearing.specs.Hearing.{has_grant, has_pending, phase_after, request_in, station_after}
use Rattle.hearing.proofs.Heard.{Outcome, hear_granted, hear_outcome}
use Rattle.hearing.proofs.Heard.Outcome.{silent, spoke}
use Rattle.headend.specs.declared.record.Request.{Request}
use Rattle.issuing.specs.Plan.{total, use_of}
use Rattle.issuing.proofs.Planned.{grant_intervals}
use Rattle.channel.specs.History.{Issue, map_in, Sending, bursts_by, sendings_by}
use Rattle.channel.proofs.Timing.{at, at_moved}
use Rattle.channel.proofs.Keeping.{mem_keep, and_left, and_right, each_cons}
use Rattle.channel.proofs.Contents.{asking, granted_by, Contents}
use Rattle.channel.proofs.Invariant.{length_of, start_of, end_of, Covered}
use Rattle.channel.proofs.Invariant.Covered.{in_contention, in_grant}
use Rattle.channel.proofs.Listening.{chances, sent_on, chance_at}
use Rattle.std.specs.Prelude.{Option, Some, None}
use Rattle.slots.specs.declared.time.MiniSlot.{MiniSlot}

grants_within : (short o : ℕ) (gs : List Request) (k : Interval) → Memᴰ k (grant_intervals short o gs) → (o ≤ k.first) × (k.first + k.length ≤ o + total gs)
unfolding grant_intervals total
grants_within short o [] k m = absurd (Memᴰ.not-nil m)
grants_within short o (q ∷ qs) k m = each_cons (λ (k : Interval). (o ≤ k.first) × (k.first + k.length ≤ o + (q.size + total qs))) _ _ (omega arith, omega arith)
    (λ y n. let r = grants_within short (o + q.size) qs y n in (omega arith, omega arith)) k m

abbrev grant_interval : ℕ → ℕ → Request → Interval
grant_interval short offset q = record { sid = q.sid; iuc = use_of short q; first = offset; length = q.size }

-- two grants that share a mini-slot y are one SID's
grants_same : (short o : ℕ) (gs : List Request) (k k' : Interval) (y : ℕ) → Memᴰ k (grant_intervals short o gs) → Memᴰ k' (grant_intervals short o gs) →
    k.first ≤ y → y < k.first + k.length → k'.first ≤ y → y < k'.first + k'.length → k.sid ≡ k'.sid
unfolding grant_intervals
grants_same short o [] k k' y m m' a b a' b' = absurd (Memᴰ.not-nil m)
grants_same short o (q ∷ qs) k k' y m m' a b a' b' = go (Memᴰ.cases_cons m) (Memᴰ.cases_cons m') (λ n n'. grants_same short (o + q.size) qs k k' y n n' a b a' b')
  where
    rest : List Interval
    rest = grant_intervals short (o + q.size) qs

    beyond : (x z : Interval) → x ≡ grant_interval short o q → Memᴰ z rest → y < x.first + x.length → z.first ≤ y → ⊥
    beyond x z e n b a =
        let r = grants_within short (o + q.size) qs z n in
        let u : x.first ≡ o = ap (λ (i : Interval). i.first) e in
        let v : x.length ≡ q.size = ap (λ (i : Interval). i.length) e in omega arith

    go : (k ≡ grant_interval short o q) ⊎ Memᴰ k rest → (k' ≡ grant_interval short o q) ⊎ Memᴰ k' rest → (Memᴰ k rest → Memᴰ k' rest → k.sid ≡ k'.sid) → k.sid ≡ k'.sid
    go (inl e) (inl f) ih = ap (λ (z : Interval). z.sid) (e ∙ sym f)
    go (inl e) (inr n') ih = absurd (beyond k k' e n' b a')
    go (inr n) (inl f) ih = absurd (beyond k' k f n b' a)
    go (inr n) (inr n') ih = ih n n'

module _ (j : Issue) (told : Contents j) where
  abbrev Grants : List Interval
  Grants = grant_intervals j.before.short j.c (granted_by j)

  -- an interval that grants is one of the grants
  is_grant : (k : Interval) → Memᴰ k (intervals (map_in j).elements) → granting k.iuc ≡ true → Memᴰ k Grants
  is_grant k m g = go (Memᴰ.cases_cons (rw told.parts at m))
    where
      go : (k ≡ asking j.c) ⊎ Memᴰ k Grants → Memᴰ k Grants
      go (inl e) = let u : granting k.iuc ≡ false = ap (λ (z : Interval). granting z.iuc) e in let y : ◌≡◌ {A = ℕ} 0 1 = cc in absurd (omega arith)
      go (inr n) = n

  pub grant_within : (k : Interval) → Memᴰ k (intervals (map_in j).elements) → granting k.iuc ≡ true → (j.c ≤ k.first) × (k.first + k.length ≤ length_of j)
  grant_within k m g = let r = grants_within j.before.short j.c (granted_by j) k (is_grant k m g) in (r.0, omega (arith, told.length))

  pub grant_same : (k k' : Interval) (y : ℕ) → Memᴰ k (intervals (map_in j).elements) → granting k.iuc ≡ true → Memᴰ k' (intervals (map_in j).elements) → granting k'.iuc ≡ true →
      k.first ≤ y → y < k.first + k.length → k'.first ≤ y → y < k'.first + k'.length → k.sid ≡ k'.sid
  grant_same k k' y m g m' g' a b a' b' = grants_same j.before.short j.c (granted_by j) k k' y (is_grant k m g) (is_grant k' m' g') a b a' b'

  module _ (B : ℕ) (fit : end_of B j < 4294967296) (st : Station) where
    pub burst_covered : (x : Sending) → Memᴰ x (bursts_by st (map_in j)) → Covered B x j
    unfolding grants_to
    burst_covered x m = go (Memᴰ.of_map _ (grants_to st.sid (map_in j).elements) m)
      where
        go : (k : Interval) × Memᴰ k (grants_to st.sid (map_in j).elements) × (record { sid = st.sid; first = time_at (map_in j) k.first; size = k.length } ≡ x) → Covered B x j
        go (k, n, e) =
            let r = mem_keep (λ (k : Interval). granting k.iuc && eqb k.sid st.sid) (intervals (map_in j).elements) k n in
            let g = and_left (granting k.iuc) (eqb k.sid st.sid) r.1 in
            let s = eqb-true k.sid st.sid (and_right (granting k.iuc) (eqb k.sid st.sid) r.1) in
            let w = grant_within k r.0 g in
            let z : at B (time_at (map_in j) k.first) ≡ start_of B j + k.first = ap (λ (y : ℕ). at B (moved_on 32 y k.first)) told.start ∙ at_moved B j.before.next.0 k.first (omega arith) in
            subst (λ (x : Sending). Covered B x j) e (in_grant k r.0 g s z refl)

    pub sent_covered : (draw : ℕ) → eqb 0x3FFF st.sid ≡ false → (x : Sending) → Memᴰ x (sendings_by (station_after st (map_in j) draw) (sent_on st (map_in j) draw)) → Covered B x j
    unfolding station_after
    sent_covered draw single x m = go (has_grant st (map_in j)) refl
      where
        nothing : request_in st (map_in j) draw ≡ None → Covered B x j
        nothing e = absurd (Memᴰ.not-nil (rw e at m))

        heard : Outcome 32 (has_pending st (map_in j)) (map_in j).fields.ack.0 (chances st (map_in j)) st.phase (phase_after st (map_in j) draw) (request_in st (map_in j) draw) → Covered B x j
        heard (silent s _) = nothing s
        heard (spoke exponent retries time size e s c) =
            let b = chance_at B st j told single (omega (arith, told.length)) time.0 c in
            let y : x ≡ record { sid = st.sid; first = time.0; size = st.r } = Memᴰ.eq_of_singleton (rw s at m) in
            subst (λ (x : Sending). Covered B x j) (sym y) (in_contention b.0 b.1)

        go : (b : Bool) → has_grant st (map_in j) ≡ b → Covered B x j
        go true g = nothing (hear_granted st (map_in j) draw g).1
        go false g = heard (hear_outcome st (map_in j) draw g)

-- what is sent carries the station's SID
pub sent_sid : (st : Station) (m : Map) (draw : ℕ) (q : Request) → Memᴰ q (sent_on st m draw) → q.sid ≡ st.sid
unfolding station_after
sent_sid st m draw q n = go (request_in st m draw) refl
  where
    go : (s : Option MiniSlot) → request_in st m draw ≡ s → q.sid ≡ st.sid
    go None e = absurd (Memᴰ.not-nil (rw e at n))
    go (Some t) e = ap (λ (z : Request). z.sid) (Memᴰ.eq_of_singleton (rw e at n))
