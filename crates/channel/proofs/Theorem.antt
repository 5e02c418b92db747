-- Demand 3: after every history whose MAPs are together less than 2^31 mini-slots long.
use mathlib.Core.Path.{◌≡◌, refl, sym, ◌∙◌, ap}
use mathlib.Core.Bool.{Bool, true, false, cond}
use mathlib.Core.Logic.{◌⊎◌, inl, inr}
use mathlib.Core.List.Memᴰ
use mathlib.Core.List.{List, [], ◌∷◌, Memᴰ}
use Prim.Native.Nat.{ℕ, ◌+◌, ◌^◌, ◌≤◌, ◌<◌}
use native.Mathlib.Omega.{arith}
use lib.Dec.{ltb, eqb}
use lib.ListN.{length}
use borrow.Author.Tests.{eqb-true, eq-eqb, le-ltb}
use Rattle.slots.specs.declared.time.MiniSlot.{MiniSlot}
use Rattle.slots.specs.Time.{earlier, moved_on}
use Rattle.rules.specs.Rules.{granting}
use Rattle.message.specs.Map.{Map, Interval, intervals}
use Rattle.station.specs.declared.record.Phase.TheVariants.{Waiting}
use Rattle.station.specs.declared.record.Station.{Station}
use Rattle.hearing.specs.declared.answer.Hearing.{Hearing}
use Rattle.hearing.specs.Hearing.{phase_after, request_in, station_after}
use Rattle.hearing.proofs.Heard.{Outcome}
use Rattle.hearing.proofs.Heard.Outcome.{silent, spoke}
use Rattle.headend.specs.declared.record.Request.{Request}
use Rattle.headend.specs.Requests.{held_of}
use Rattle.channel.specs.History.{from, Issue, bytes_of, map_in, State, station_at, Event, Offer, Issue', Hear, Deliver, Lose, heard_at, issues_after, asked, issuing, step, after, spent}
use Rattle.channel.specs.Claims.{Fresh, GrantedAlone, HeldWaits, WaitingHeld, Safe}
use Rattle.channel.proofs.Timing.{at, at_moved, earlier_at}
use Rattle.channel.proofs.Keeping.{clash, keep_mem, keep_head, mem_only}
use Rattle.issuing.proofs.Planned.{of_sid}
use Rattle.channel.proofs.Contents.{granted_by, pending_by, held_split}
use Rattle.channel.proofs.Invariant.{length_of, start_of, end_of, heard_to, Case, Waits, Clear, Carried, live, Covered, Owned, Inv}
use Rattle.channel.proofs.Invariant.Case.{quiet, flying, held, granted}
use Rattle.channel.proofs.Invariant.Covered.{in_contention, in_grant}
use Rattle.channel.proofs.Chain.{Order, chain_below, chain_order}
use Rattle.channel.proofs.Listening.{chances, heard_clear, heard_grant, chance_at}
use Rattle.channel.proofs.CaseHear.{still_waits}
use Rattle.channel.proofs.Logging.{grant_within, grant_same}
use Rattle.channel.proofs.Refusing.{Either, hear_either}
use Rattle.channel.proofs.Steps.{next_below, inv_offer, inv_issue, inv_hear, inv_deliver, inv_lose, fresh_if}
use Rattle.channel.proofs.Start.{inv_fresh}
use Rattle.std.specs.Prelude.{Result, Ok, Err}
use Rattle.rules.specs.declared.refusal.Refusal.{Refusal}
use Rattle.hearing.specs.declared.answer.Answer.{Answer}

-- the phase that an accepted hearing leaves
phase_is : (st : Station) (m : Map) (draw : ℕ) → phase_after st m draw ≡ (station_after st m draw).phase
unfolding station_after
phase_is st m draw = refl

-- MAPs are only added
issues_grow : (a : Result ℕ Refusal) (j : Issue) (js : List Issue) → spent js ≤ spent (issues_after a j js)
unfolding spent
issues_grow (Ok size) j js = omega arith
issues_grow (Err why) j js = omega arith

grows : (s : State) (e : Event) → spent s.issues ≤ spent (step s e).issues
unfolding step
grows s (Offer i size) = omega arith
grows s (Issue' ack c budget room) = issues_grow (issuing (asked s ack c budget) room).answer (asked s ack c budget) s.issues
grows s (Hear i j present draw) = go (ltb i (length s.stations)) (from j s.issues)
  where
    go : (b : Bool) (js : List Issue) → spent s.issues ≤ spent (cond b (heard_at s i js present draw) s).issues
    go true [] = omega arith
    go true (k ∷ js) = omega arith
    go false js = omega arith
grows s (Deliver k) = omega arith
grows s (Lose k) = omega arith

grows_all : (es : List Event) (s : State) → spent s.issues ≤ spent (after es s).issues
unfolding after
grows_all [] s = omega arith
grows_all (e ∷ es) s = let a = grows s e in let b = grows_all es (step s e) in omega arith

module _ (B : ℕ) where
  inv_step : (s : State) (e : Event) → Inv B s → spent (step s e).issues < 2147483648 → Inv B (step s e)
  inv_step s (Offer i size) inv h = inv_offer B s inv i size
  inv_step s (Issue' ack c budget room) inv h = inv_issue B s inv ack c budget room h
  inv_step s (Hear i j present draw) inv h = let g = grows s (Hear i j present draw) in inv_hear B s inv (omega arith) i j present draw
  inv_step s (Deliver k) inv h = let g = grows s (Deliver k) in inv_deliver B s inv (omega arith) k
  inv_step s (Lose k) inv h = inv_lose B s inv k

  pub inv_after : (es : List Event) (s : State) → Inv B s → spent (after es s).issues < 2147483648 → Inv B (after es s)
  unfolding after
  inv_after [] s inv h = inv
  inv_after (e ∷ es) s inv h = let g = grows_all es (step s e) in inv_after es (step s e) (inv_step s e inv (omega arith)) h

  module _ (s : State) (inv : Inv B s) (small : spent s.issues < 2147483648) where
    below : at B s.headend.next.0 < 2147483648
    below = next_below B s inv small

    ends : (i : Issue) → Memᴰ i s.issues → (end_of B i ≤ at B s.headend.next.0) × (1 ≤ length_of i)
    ends i n = chain_below B (at B s.headend.next.0) s.issues inv.line.chain i n

    order_of : (j k : Issue) → Memᴰ j s.issues → Memᴰ k s.issues → Order B j k
    order_of j k m n = chain_order B (at B s.headend.next.0) s.issues inv.line.chain j k m n

    -- (a)
    pub is_alone : GrantedAlone s
    is_alone j m k mk g a ha x mx b hb e = go (inv.covered x mx)
      where
        inside : (j.c ≤ k.first) × (k.first + k.length ≤ length_of j)
        inside = grant_within j (inv.line.contents j m) k mk g

        meet : at B x.first + b < 4294967296 → start_of B j + (k.first + a) ≡ at B x.first + b
        meet h =
            let t : moved_on 32 j.before.next.0 (k.first + a) ≡ moved_on 32 x.first b = ap (λ (y : ℕ). moved_on 32 y (k.first + a)) (sym (inv.line.contents j m).start) ∙ e in
            sym (at_moved B j.before.next.0 (k.first + a) (omega (arith, ends j m, inside, below))) ∙ ap (at B) t ∙ at_moved B x.first b h

        asks : (i : Issue) → Memᴰ i s.issues → start_of B i ≤ at B x.first → at B x.first + x.size ≤ start_of B i + i.c → Order B j i → k.sid ≡ x.sid
        asks i n lo hi (inl z) =
            let z1 : start_of B j ≡ start_of B i = ap (start_of B) z in let z2 : j.c ≡ i.c = ap (λ (w : Issue). w.c) z in
            let w = meet (omega (arith, ends i n, below, (inv.line.contents i n).length)) in absurd (omega (arith, inside))
        asks i n lo hi (inr (inl z)) = let w = meet (omega (arith, ends i n, below, (inv.line.contents i n).length)) in absurd (omega (arith, inside))
        asks i n lo hi (inr (inr z)) = let w = meet (omega (arith, ends i n, below, (inv.line.contents i n).length)) in absurd (omega (arith, inside, (inv.line.contents i n).length))

        bursts : (i : Issue) → Memᴰ i s.issues → (k' : Interval) → Memᴰ k' (intervals (map_in i).elements) → granting k'.iuc ≡ true → k'.sid ≡ x.sid → at B x.first ≡ start_of B i + k'.first → x.size ≡ k'.length → Order B j i → k.sid ≡ x.sid
        bursts i n k' mk' g' σ p l (inl z) =
            let r = grant_within i (inv.line.contents i n) k' mk' g' in let w = meet (omega (arith, ends i n, below)) in let z1 : start_of B j ≡ start_of B i = ap (start_of B) z in
            grant_same j (inv.line.contents j m) k k' (k.first + a) mk g (rw z mk') g' (omega arith) (omega arith) (omega arith) (omega arith) ∙ σ
        bursts i n k' mk' g' σ p l (inr (inl z)) = let r = grant_within i (inv.line.contents i n) k' mk' g' in let w = meet (omega (arith, ends i n, below)) in absurd (omega (arith, inside))
        bursts i n k' mk' g' σ p l (inr (inr z)) = let r = grant_within i (inv.line.contents i n) k' mk' g' in let w = meet (omega (arith, ends i n, below)) in absurd (omega (arith, inside))

        go : (i : Issue) × Memᴰ i s.issues × Covered B x i → k.sid ≡ x.sid
        go (i, n, in_contention lo hi) = asks i n lo hi (order_of j i m n)
        go (i, n, in_grant k' mk' g' σ p l) = bursts i n k' mk' g' σ p l (order_of j i m n)

    abbrev Which : ℕ → Type 0
    Which i = Case B (station_at s i).sid (station_at s i).phase (heard_to B (station_at s i)) (at B s.headend.next.0) (of_sid (station_at s i).sid (held_of s.headend)) (live B (station_at s i).sid (at B s.headend.ack.0) s.flying) s.issues

    -- (b): a request that is held leaves only one case
    pub held_waits : HeldWaits s
    held_waits q m = go (inv.owned_held q m)
      where
        go : Owned B s q → (i : ℕ) × (i < length s.stations) × ((station_at s i).sid ≡ q.sid) × Waits (station_at s i).phase q
        go (i, h, e) = (i, h, e, waits (inv.each i h).which)
          where
            here : Memᴰ q (of_sid (station_at s i).sid (held_of s.headend))
            here = keep_mem _ (held_of s.headend) q (eq-eqb q.sid (station_at s i).sid (sym e)) m

            none : of_sid (station_at s i).sid (held_of s.headend) ≡ [] → Waits (station_at s i).phase q
            none a = absurd (Memᴰ.not-nil (rw a at here))

            waits : Which i → Waits (station_at s i).phase q
            waits (quiet a b c) = none a
            waits (flying p w a b c d) = none a
            waits (held p d w a b c l win) = let z : q ≡ p = Memᴰ.eq_of_singleton (rw a at here) in rw z w
            waits (granted p d g w a b c k l n o u v) = none a

    -- (c)
    module _ (i : ℕ) (h : i < length s.stations) (j : Issue) (m : Memᴰ j s.issues) (draw exponent retries size : ℕ) (time : MiniSlot)
        (w : phase_after (station_at s i) (map_in j) draw ≡ Waiting exponent retries time size) (late : earlier 32 time.0 j.ack ≡ true) (fresh : heard_to B (station_at s i) ≤ start_of B j) where
      abbrev Found : Type 0
      Found = (q : Request) × Memᴰ q (held_of j.before) × (q.sid ≡ (station_at s i).sid) × (q.size ≡ size) × (q.first ≡ time)

      before : start_of B j < at B s.headend.next.0
      before = omega (arith, ends j m)

      -- a request sent in this MAP is not earlier than its Ack Time
      not_new : (t : ℕ) → t ≡ time.0 → Memᴰ t (chances (station_at s i) (map_in j)) → ⊥
      not_new t e c =
          let told = inv.line.contents j m in
          let b = chance_at B (station_at s i) j told (inv.each i h).steady.single (omega (arith, below, ends j m, told.length)) t c in
          let k = inv.line.acks j m in
          let u : earlier 32 t j.ack ≡ false = earlier_at B t j.ack (omega (arith, below, ends j m, told.length)) (omega (arith, below, before)) ∙ le-ltb (at B t) (at B j.ack) (omega arith) in
          clash (earlier 32 time.0 j.ack) late (rw e at u)

      not_clear : Clear (station_at s i).sid j → ⊥
      not_clear cl = go (heard_clear (station_at s i) j draw (inv.line.contents j m) cl)
        where
          go2 : (false ≡ true) ⊎ (earlier 32 time.0 j.ack ≡ false) → ⊥
          go2 (inl a) = clash false a refl
          go2 (inr a) = clash (earlier 32 time.0 j.ack) late a

          go : Outcome 32 false j.ack (chances (station_at s i) (map_in j)) (station_at s i).phase (phase_after (station_at s i) (map_in j) draw) (request_in (station_at s i) (map_in j) draw) → ⊥
          go (silent a b) = go2 (b exponent retries time size w).1
          go (spoke exponent' retries' time' size' e' s' c) = not_new time'.0 (let z : time' ≡ time = cc in ap (λ (t : MiniSlot). t.0) z) c

      found : (q : Request) (d : ℕ) → Waits (station_at s i).phase q → at B q.first.0 < at B s.headend.next.0 → Carried B (station_at s i).sid q d j → Found
      found q d v b (inl (_, c, _)) = absurd (not_clear c)
      found q d (x, r, v) b (inr (l, c)) =
          let u = still_waits B (station_at s i) j draw (at B s.headend.next.0) (at B s.headend.ack.0) [] [] s.issues inv.line.chain below m fresh (inv.line.acks j m).1 (inv.line.acks j m).0 (inv.line.contents j m) (inv.each i h).steady.single (inv.each i h).steady.asks q d x r v b (inr (l, c)) in
          let z : Waiting x r q.first q.size ≡ Waiting exponent retries time size = sym u.0 ∙ w in (
            q,
            (rw (held_split j) at (Memᴰ.append_right (granted_by j) (mem_only _ (pending_by j) q c))),
            eqb-true _ _ (keep_head (λ (q : Request). eqb q.sid (station_at s i).sid) (pending_by j) q [] c),
            (let y : q.size ≡ size = cc in y),
            (let y : q.first ≡ time = cc in y),
          )

      waited : Which i → Found
      waited (quiet a b c) = absurd (not_clear (c j m fresh before))
      waited (flying q v a b c d) = absurd (not_clear (d j m fresh before))
      waited (held q d v a b c l win) = found q d v c (win j m fresh before)
      waited (granted q d g v a b c mg l gq gp o u) = go (order_of j g m mg)
        where
          go : Order B j g → Found
          go (inl z) = let p = heard_grant (station_at s i) j draw (inv.line.contents j m) q (rw z gq) (rw z gp) in let y : ◌≡◌ {A = ℕ} 0 1 = cc p.0 in absurd (omega arith)
          go (inr (inl z)) = found q d v c (o j m fresh (omega (arith, ends j m)))
          go (inr (inr z)) = absurd (not_clear (u j m z before))

    pub waiting_held : WaitingHeld s
    waiting_held i h j m present draw bursts request ok exponent retries size time w late = go (hear_either (station_at s i) (bytes_of j) present draw)
      where
        go : Either (station_at s i) (bytes_of j) present draw → (q : Request) × Memᴰ q (held_of j.before) × (q.sid ≡ (station_at s i).sid) × (q.size ≡ size) × (q.first ≡ time)
        go (inl (why, e)) = let z : ◌≡◌ {A = Result Answer Refusal} (Err why) (Ok (record { bursts = bursts; request = request })) = sym (ap (λ (r : Hearing). r.answer) e) ∙ ok in absurd (let y : ◌≡◌ {A = ℕ} 0 1 = cc in omega arith)
        go (inr (e, f)) = waited i h j m draw exponent retries size time (phase_is (station_at s i) (map_in j) draw ∙ ap (λ (r : Hearing). r.station.phase) (sym e) ∙ w) (rw (inv.line.contents j m).ack at late) (fresh_if B s inv small i h j m present f) (inv.each i h).which

-- the stronger form of demand 3: presents are any
pub safe_spent : (s : State) → Fresh s → (es : List Event) → spent (after es s).issues < 2 ^ 31 → Safe (after es s)
safe_spent s f es h =
    let B = s.headend.next.0 in
    let inv = inv_after B es s (inv_fresh s f) h in
    record { granted_alone = is_alone B (after es s) inv h; held_waits = held_waits B (after es s) inv h; waiting_held = waiting_held B (after es s) inv h }
