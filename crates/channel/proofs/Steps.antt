-- Every event keeps the invariant.
use mathlib.Core.Path.{◌≡◌, refl, sym, ◌∙◌, ap}
use mathlib.Core.Bool.{Bool, true, false, cond, ◌&&◌}
use mathlib.Core.Logic.{◌⊎◌, inl, inr}
use mathlib.Core.List.Memᴰ
use mathlib.Core.List.{List, [], ◌∷◌, ◌++◌, append-nil, Memᴰ}
use Prim.Native.Nat.{ℕ, ◌+◌, ◌%◌, ◌^◌, ◌≤◌, ◌<◌}
use native.Mathlib.Nat.{mod-lt}
use native.Mathlib.Omega.{arith}
use lib.Dec.{leb, ltb, eqb}
use lib.Pow.{pow_pos}
use lib.ListN.{length, get_or, set}
use lib.Seq.{set-get_or}
use borrow.Author.Tests.{ne_eqb, leb-true, le-leb, ltb-true, lt-ltb}
use Rattle.slots.specs.Time.{earlier, moved_on}
use Rattle.slots.proofs.Rolling.{order}
use Rattle.message.specs.Lists.{keep}
use Rattle.rules.specs.Sids.{unicast}
use Rattle.message.proofs.Accepted.{keep_append}
use Rattle.station.specs.declared.record.Phase.TheVariants.{Idle}
use Rattle.station.specs.declared.record.Station.{Station}
use Rattle.station.specs.Offering.{wanting, offer_of}
use Rattle.hearing.specs.Hearing.{hear_fault, station_after, hear_of}
use Rattle.headend.specs.declared.record.Headend.{Headend}
use Rattle.headend.specs.declared.record.Request.{Request}
use Rattle.headend.specs.Requests.{held_of}
use Rattle.headend.specs.Records.{with_places, request_fault, joined, request_of}
use Rattle.headend.proofs.Checks.{Welcome, request_welcome}
use Rattle.headend.proofs.Tables.{held_joined}
use Rattle.issuing.specs.Issue.{issue_fault, moved_to, issued_from, issue_of}
use Rattle.issuing.proofs.Issues.{Called}
use Rattle.issuing.proofs.Tables.{held_issued}
use Rattle.channel.specs.History.{pluck, from, Issue, bytes_of, map_in, Sending, State, Offer, Issue', Hear, Deliver, Lose, nobody, nothing, station_at, bursts_by, sendings_by, heard_by, heard_at, step, spent}
use Rattle.channel.proofs.Timing.{at, at_moved, earlier_at, ack_at}
use Rattle.channel.proofs.Keeping.{clash, and_left, and_right, both_true, and_false, keep_stricter, keep_none_at, keep_none, pluck_other, pluck_none, pluck_this, pluck_one, pluck_mem, get_d_mem, from_mem, each_cons}
use Rattle.issuing.proofs.Planned.{of_sid}
use Rattle.channel.proofs.Holding.{places_joined, places_issued}
use Rattle.channel.proofs.Contents.{granted_by, pending_by, held_split, Contents, ack_between, issue_called, contents, next_is}
use Rattle.channel.proofs.Invariant.{length_of, start_of, end_of, heard_to, Case, live, Fits, Covered, Owned, Inv}
use Rattle.channel.proofs.Chain.{chain_below, chain_spent}
use Rattle.channel.proofs.Cases.{case_offer, case_lose, case_taken, case_issue}
use Rattle.channel.proofs.Listening.{sent_on}
use Rattle.channel.proofs.CaseHear.{case_hear}
use Rattle.channel.proofs.Logging.{burst_covered, sent_covered, sent_sid}
use Rattle.channel.proofs.Tables.{each_set, apart_set, owner_set}
use Rattle.channel.proofs.Refusing.{heard, Either, hear_either, accepted_fresh, offer_either}
use Rattle.rules.specs.declared.refusal.Reason.{Reason}
use Rattle.std.specs.Prelude.{Result, Ok, Err}

-- the headend's next start, within the span
pub next_below : (B : ℕ) (s : State) → Inv B s → spent s.issues < 2147483648 → at B s.headend.next.0 < 2147483648
next_below B s inv small = let n = chain_spent B (at B s.headend.next.0) s.issues inv.line.chain in omega arith

abbrev state : Headend → List Station → List Issue → List Request → List Sending → State
state headend stations issues flying log = record { headend = headend; stations = stations; issues = issues; flying = flying; log = log }

module _ (B : ℕ) (s : State) (inv : Inv B s) where
  -- σ's live requests: the blank one is never live
  blank : (σ a : ℕ) → eqb 0 σ ≡ false → (eqb nothing.sid σ && leb a (at B nothing.first.0)) ≡ false
  blank σ a e = and_false (eqb 0 σ) _ e

  -- a station is changed to Wanting
  wanted : (i size : ℕ) → (station_at s i).phase ≡ Idle → Inv B (state s.headend (set s.stations i (wanting (station_at s i) size)) s.issues s.flying s.log)
  wanted i size was = record {
    line = inv.line;
    places = inv.places;
    apart = apart_set s.stations i (wanting (station_at s i) size) refl inv.apart;
    each = each_set s.stations i (wanting (station_at s i) size) (λ st. Fits B (state s.headend (set s.stations i (wanting (station_at s i) size)) s.issues s.flying s.log) st)
        (λ h. let f = inv.each i h in record { steady = f.steady; upto = f.upto; which = case_offer B _ _ _ _ _ _ _ was _ f.which })
        (λ k h _. let f = inv.each k h in record { steady = f.steady; upto = f.upto; which = f.which });
    covered = inv.covered;
    owned_flying = λ q m. owner_set s.stations i (wanting (station_at s i) size) refl q.sid (inv.owned_flying q m);
    owned_held = λ q m. owner_set s.stations i (wanting (station_at s i) size) refl q.sid (inv.owned_held q m);
  }

  pub inv_offer : (i size : ℕ) → Inv B (step s (Offer i size))
  unfolding step
  inv_offer i size = go (offer_either (station_at s i) size)
    where
      go : ((offer_of (station_at s i) size).station ≡ station_at s i) ⊎ (((offer_of (station_at s i) size).station ≡ wanting (station_at s i) size) × ((station_at s i).phase ≡ Idle)) →
          Inv B (state s.headend (set s.stations i (offer_of (station_at s i) size).station) s.issues s.flying s.log)
      go (inl e) = rw (e, set-get_or s.stations i nobody) inv
      go (inr (e, was)) = rw e (wanted i size was)

  -- a request leaves the air
  lost : (k : ℕ) → Inv B (state s.headend s.stations s.issues (pluck k s.flying) s.log)
  lost k = record {
    line = inv.line;
    places = inv.places;
    apart = inv.apart;
    each = λ i h. let f = inv.each i h in let none = blank (station_at s i).sid (at B s.headend.ack.0) f.steady.nonzero in record {
      steady = f.steady;
      upto = f.upto;
      which = case_lose B _ _ _ _ _ _ _ _ (λ e. pluck_none _ s.flying k nothing none e) (λ q e. pluck_one _ s.flying k nothing q none e) f.which;
    };
    covered = inv.covered;
    owned_flying = λ q m. inv.owned_flying q (pluck_mem s.flying k q m);
    owned_held = inv.owned_held;
  }

  pub inv_lose : (k : ℕ) → Inv B (step s (Lose k))
  unfolding step
  inv_lose k = lost k

  -- what the headend does not call passed is live
  not_passed : spent s.issues < 2147483648 → (t : ℕ) → earlier 32 t s.headend.ack.0 ≡ false → at B s.headend.ack.0 ≤ at B t
  not_passed small t e = go (order (at B s.headend.ack.0) (at B t))
    where
      go : (at B s.headend.ack.0 ≤ at B t) ⊎ (at B t < at B s.headend.ack.0) → at B s.headend.ack.0 ≤ at B t
      go (inl h) = h
      go (inr h) = let n = next_below B s inv small in let l = inv.line.ack_next in
          clash (earlier 32 t s.headend.ack.0) (earlier_at B t s.headend.ack.0 (omega arith) (omega arith) ∙ lt-ltb _ _ h) e

  -- the headend takes the k-th request in flight
  module _ (small : spent s.issues < 2147483648) (k : ℕ) (ok : Welcome s.headend (get_or s.flying k nothing)) where
    abbrev it : Request
    it = get_or s.flying k nothing

    late : at B s.headend.ack.0 ≤ at B it.first.0
    late = not_passed small it.first.0 ok.current

    more : held_of (joined s.headend it) ≡ held_of s.headend ++ (it ∷ [])
    more = held_joined s.headend it ok.few inv.places.requests

    owner : Owned B s it
    owner = go (get_d_mem s.flying k nothing)
      where
        go : (it ≡ nothing) ⊎ Memᴰ it s.flying → Owned B s it
        go (inl e) = let z : unicast 0 ≡ true = rw e at ok.unicasts in clash false z refl
        go (inr m) = inv.owned_flying it m

    which_taken : (i : ℕ) (h : i < length s.stations) →
        Case B (station_at s i).sid (station_at s i).phase (heard_to B (station_at s i)) (at B s.headend.next.0) (of_sid (station_at s i).sid (held_of (joined s.headend it)))
        (live B (station_at s i).sid (at B s.headend.ack.0) (pluck k s.flying)) s.issues
    which_taken i h = rw (more, keep_append (λ (q : Request). eqb q.sid σ) (held_of s.headend) (it ∷ [])) (go (eqb it.sid σ) refl)
      where
        σ : ℕ
        σ = (station_at s i).sid

        a : ℕ
        a = at B s.headend.ack.0

        none : (eqb 0 σ && leb a (at B 0)) ≡ false
        none = blank σ a (inv.each i h).steady.nonzero

        go : (c : Bool) → eqb it.sid σ ≡ c → Case B σ (station_at s i).phase (heard_to B (station_at s i)) (at B s.headend.next.0) (of_sid σ (held_of s.headend) ++ cond c (it ∷ []) []) (live B σ a (pluck k s.flying)) s.issues
        go true z = let y = both_true (eqb it.sid σ) (leb a (at B it.first.0)) z (le-leb _ _ late) in
            case_taken B _ _ _ _ _ _ _ it _
            (λ o. clash _ y (keep_none_at _ s.flying k nothing none o))
            (λ q o. pluck_this _ s.flying k nothing q none y o)
            (λ j m. let r = inv.line.acks j m in omega (arith, late)) (inv.each i h).which
        go false z = rw (append-nil (of_sid σ (held_of s.headend)), pluck_other (λ (q : Request). eqb q.sid σ && leb a (at B q.first.0)) s.flying k nothing (and_false _ _ z)) (inv.each i h).which

    took : Inv B (state (joined s.headend it) s.stations s.issues (pluck k s.flying) s.log)
    unfolding joined with_places
    took = record {
      line = inv.line;
      places = places_joined s.headend it inv.places;
      apart = inv.apart;
      each = λ i h. let f = inv.each i h in record { steady = f.steady; upto = f.upto; which = which_taken i h };
      covered = inv.covered;
      owned_flying = λ q m. inv.owned_flying q (pluck_mem s.flying k q m);
      owned_held = λ q m. held_of_lem q (Memᴰ.append_cases (held_of s.headend) (rw more at m));
    }
      where
        held_of_lem : (q : Request) → Memᴰ q (held_of s.headend) ⊎ Memᴰ q (it ∷ []) → Owned B s q
        held_of_lem q (inl n) = inv.owned_held q n
        held_of_lem q (inr n) = rw (Memᴰ.eq_of_singleton n) owner

  pub inv_deliver : spent s.issues < 2147483648 → (k : ℕ) → Inv B (step s (Deliver k))
  unfolding step request_of
  inv_deliver small k = go (request_fault s.headend it) refl
    where
      it : Request
      it = get_or s.flying k nothing

      go : (b : Result Unit Reason) → request_fault s.headend it ≡ b → Inv B (step s (Deliver k))
      go (Err why) e = rw e (lost k)
      go (Ok u) e = rw e (took small k (request_welcome s.headend it e))

  -- a MAP is issued
  module _ (ack c budget : ℕ) (small : spent (record { before = s.headend; ack = ack; c = c; budget = budget } ∷ s.issues) < 2147483648)
      (fits : ack < 4294967296) (room : ℕ) (ok : Called s.headend ack c budget room) where
    abbrev j : Issue
    j = record { before = s.headend; ack = ack; c = c; budget = budget }

    between : (at B s.headend.ack.0 ≤ at B ack) × (at B ack ≤ at B s.headend.next.0)
    between = ack_at B s.headend.ack.0 s.headend.next.0 ack inv.line.ack_next (ack_between s.headend ack c budget room ok)

    told : Contents j
    told = contents j room ok inv.line.clock fits

    below_half : at B s.headend.next.0 + length_of j < 2147483648
    unfolding spent
    below_half = let n = chain_spent B (at B s.headend.next.0) s.issues inv.line.chain in omega arith

    next_at : at B (issued_from s.headend ack c budget).next.0 ≡ end_of B j
    next_at = ap (at B) (next_is j room ok inv.line.clock fits) ∙ at_moved B s.headend.next.0 (length_of j) (omega (arith, below_half))

    long : 1 ≤ length_of j
    long = omega (arith, told.length, ok.some)

    held_is : held_of (issued_from s.headend ack c budget) ≡ pending_by j
    held_is = held_issued s.headend ack c budget ok.few

    -- requests that the new Ack Time passes are live no more
    live_later : (σ : ℕ) → live B σ (at B ack) s.flying ≡ keep (λ q. eqb q.sid σ && leb (at B ack) (at B q.first.0)) (live B σ (at B s.headend.ack.0) s.flying)
    live_later σ = keep_stricter (λ q. eqb q.sid σ && leb (at B s.headend.ack.0) (at B q.first.0)) (λ q. eqb q.sid σ && leb (at B ack) (at B q.first.0))
        (λ q t. let r = leb-true (at B ack) (at B q.first.0) (and_right (eqb q.sid σ) (leb (at B ack) (at B q.first.0)) t) in
        both_true (eqb q.sid σ) (leb (at B s.headend.ack.0) (at B q.first.0)) (and_left (eqb q.sid σ) (leb (at B ack) (at B q.first.0)) t)
        (le-leb (at B s.headend.ack.0) (at B q.first.0) (omega (arith, between)))) s.flying

    one_later : (σ : ℕ) (q : Request) → live B σ (at B s.headend.ack.0) s.flying ≡ q ∷ [] → (live B σ (at B ack) s.flying ≡ q ∷ []) ⊎ (live B σ (at B ack) s.flying ≡ [])
    one_later σ q e = rw (live_later σ, e) (go (eqb q.sid σ && leb (at B ack) (at B q.first.0)))
      where
        go : (b : Bool) → (cond b (q ∷ []) [] ≡ q ∷ []) ⊎ (cond b (q ∷ []) [] ≡ [])
        go true = inl refl
        go false = inr refl

    made : Inv B (state (issued_from s.headend ack c budget) s.stations (j ∷ s.issues) s.flying s.log)
    unfolding issued_from moved_to with_places
    made = record {
      line = record {
        chain = (next_at, long, inv.line.chain);
        ack_next = omega (arith, next_at, between);
        acks = each_cons (λ (k : Issue). (at B k.ack ≤ start_of B k) × (at B k.ack ≤ at B ack)) j s.issues (between.1, omega arith)
            (λ k m. let r = inv.line.acks k m in (r.0, omega (arith, between)));
        contents = each_cons Contents j s.issues told inv.line.contents;
        clock = rw (next_is j room ok inv.line.clock fits) (mod-lt _ (pow_pos 32));
      };
      places = places_issued s.headend ack c budget ok.few;
      apart = inv.apart;
      each = λ i h. let f = inv.each i h in record {
        steady = f.steady;
        upto = (let u = f.upto in omega (arith, next_at));
        which = case_issue B _ _ _ _ _ _ _ _ j _ _ inv.line.chain refl next_at long f.upto
            (ap (of_sid (station_at s i).sid) (sym (held_split j)) ∙ keep_append (λ (q : Request). eqb q.sid (station_at s i).sid) (granted_by j) (pending_by j))
            (ap (of_sid (station_at s i).sid) held_is) (λ e. live_later (station_at s i).sid ∙ ap (keep _) e)
            (λ q e. one_later (station_at s i).sid q e) f.which;
      };
      covered = λ x m. let r = inv.covered x m in (r.0, Memᴰ.tail r.1, r.2);
      owned_flying = inv.owned_flying;
      owned_held = λ q m. inv.owned_held q (rw (held_split j) at (Memᴰ.append_right (granted_by j) (rw held_is at m)));
    }

  pub inv_issue : (ack c budget room : ℕ) → spent (step s (Issue' ack c budget room)).issues < 2147483648 → Inv B (step s (Issue' ack c budget room))
  unfolding step issue_of
  inv_issue ack c budget room = go (issue_fault s.headend (ack % 2 ^ 32) c budget room) refl
    where
      go : (b : Result Unit Reason) → issue_fault s.headend (ack % 2 ^ 32) c budget room ≡ b → spent (step s (Issue' ack c budget room)).issues < 2147483648 → Inv B (step s (Issue' ack c budget room))
      go (Err why) e small = rw e inv
      go (Ok u) e small = rw e (made (ack % 2 ^ 32) c budget (rw e at small) (mod-lt ack (pow_pos 32)) room (issue_called s.headend (ack % 2 ^ 32) c budget room e))

  -- station i hears MAP j
  module _ (small : spent s.issues < 2147483648) (i : ℕ) (inside : i < length s.stations) (j : Issue) (mem : Memᴰ j s.issues) where
    below : at B s.headend.next.0 < 2147483648
    below = next_below B s inv small

    ends : (end_of B j ≤ at B s.headend.next.0) × (1 ≤ length_of j)
    ends = chain_below B (at B s.headend.next.0) s.issues inv.line.chain j mem

    pub fresh_if : (present : ℕ) → hear_fault (station_at s i) (map_in j).fields present ≡ Ok tt → heard_to B (station_at s i) ≤ start_of B j
    fresh_if present e =
        let u = (inv.each i inside).upto in
        let z = ap (at B) (inv.line.contents j mem).start in
        let r = accepted_fresh B (station_at s i) (map_in j).fields present (omega (arith, below)) (omega (arith, below, ends)) e in omega arith

    module _ (draw : ℕ) where
      abbrev next : Station
      next = station_after (station_at s i) (map_in j) draw

      abbrev sent : List Request
      sent = sent_on (station_at s i) (map_in j) draw

      heard_to_lem : heard_to B next ≡ end_of B j
      unfolding station_after
      heard_to_lem = ap (λ (x : ℕ). at B (moved_on 32 x (length_of j))) (inv.line.contents j mem).start ∙ at_moved B j.before.next.0 (length_of j) (omega (arith, below, ends))

      same_sid : next.sid ≡ (station_at s i).sid
      unfolding station_after
      same_sid = refl

      -- another station's part of what is in flight
      others : (k : ℕ) → k < length s.stations → (k ≡ i → ⊥) → (a : ℕ) → live B (station_at s k).sid a (sent ++ s.flying) ≡ live B (station_at s k).sid a s.flying
      others k h n a = keep_append (λ (q : Request). eqb q.sid (station_at s k).sid && leb a (at B q.first.0)) sent s.flying ∙
          ap (λ l. l ++ live B (station_at s k).sid a s.flying) (keep_none (λ (q : Request). eqb q.sid (station_at s k).sid && leb a (at B q.first.0)) sent
          (λ q m. and_false (eqb q.sid (station_at s k).sid) (leb a (at B q.first.0))
          (ne_eqb q.sid (station_at s k).sid (λ e. n (inv.apart k i h inside (sym e ∙ sent_sid (station_at s i) (map_in j) draw q m))))))

      this_fits : heard_to B (station_at s i) ≤ start_of B j → Fits B (heard_by s i (heard (station_at s i) (map_in j) draw) (map_in j)) next
      unfolding station_after
      this_fits fresh = let f = inv.each i inside in record {
        steady = f.steady;
        upto = rw heard_to_lem ends.0;
        which = rw heard_to_lem (case_hear B (station_at s i) j draw (at B s.headend.next.0) (at B s.headend.ack.0) _ s.flying s.issues inv.line.chain below mem fresh
            (inv.line.acks j mem).1 (inv.line.acks j mem).0 (inv.line.contents j mem) f.steady.single f.steady.asks f.which);
      }

      accepted : heard_to B (station_at s i) ≤ start_of B j → Inv B (heard_by s i (heard (station_at s i) (map_in j) draw) (map_in j))
      accepted fresh = record {
        line = inv.line;
        places = inv.places;
        apart = apart_set s.stations i next same_sid inv.apart;
        each = each_set s.stations i next (λ st. Fits B after st) (λ h. this_fits fresh)
            (λ k h n. let f = inv.each k h in record { steady = f.steady; upto = f.upto; which = rw (others k h n (at B s.headend.ack.0)) f.which });
        covered = λ x m. cover x (Memᴰ.append_cases (sendings_by next sent ++ bursts_by next (map_in j)) m);
        owned_flying = λ q m. owner_set s.stations i next same_sid q.sid (own q (Memᴰ.append_cases sent m));
        owned_held = λ q m. owner_set s.stations i next same_sid q.sid (inv.owned_held q m);
      }
        where
          after : State
          after = heard_by s i (heard (station_at s i) (map_in j) draw) (map_in j)

          own : (q : Request) → Memᴰ q sent ⊎ Memᴰ q s.flying → Owned B s q
          own q (inl m) = (i, inside, sym (sent_sid (station_at s i) (map_in j) draw q m))
          own q (inr m) = inv.owned_flying q m

          cover2 : (x : Sending) → Memᴰ x (sendings_by next sent) ⊎ Memᴰ x (bursts_by next (map_in j)) → Covered B x j
          cover2 x (inl m) = sent_covered j (inv.line.contents j mem) B (omega (arith, below, ends)) (station_at s i) draw (inv.each i inside).steady.single x m
          cover2 x (inr m) = burst_covered j (inv.line.contents j mem) B (omega (arith, below, ends)) next x m

          cover : (x : Sending) → Memᴰ x (sendings_by next sent ++ bursts_by next (map_in j)) ⊎ Memᴰ x s.log → (j : Issue) × Memᴰ j s.issues × Covered B x j
          cover x (inl m) = (j, mem, cover2 x (Memᴰ.append_cases (sendings_by next sent) m))
          cover x (inr m) = inv.covered x m

    hear_step : (present draw : ℕ) → Inv B (heard_by s i (hear_of (station_at s i) (bytes_of j) present draw) (map_in j))
    hear_step present draw = go (hear_either (station_at s i) (bytes_of j) present draw)
      where
        go : Either (station_at s i) (bytes_of j) present draw → Inv B (heard_by s i (hear_of (station_at s i) (bytes_of j) present draw) (map_in j))
        go (inl (why, e)) = rw (e, set-get_or s.stations i nobody) inv
        go (inr (e, f)) = rw e (accepted draw (fresh_if present f))

  pub inv_hear : spent s.issues < 2147483648 → (i k present draw : ℕ) → Inv B (step s (Hear i k present draw))
  unfolding step
  inv_hear small i k present draw = go (ltb i (length s.stations)) refl
    where
      go2 : i < length s.stations → (js : List Issue) → from k s.issues ≡ js → Inv B (heard_at s i js present draw)
      go2 h [] e = inv
      go2 h (j ∷ js) e = hear_step small i h j (from_mem s.issues k j js e) present draw

      go : (b : Bool) → ltb i (length s.stations) ≡ b → Inv B (cond b (heard_at s i (from k s.issues) present draw) s)
      go true e = go2 (ltb-true _ _ e) (from k s.issues) refl
      go false e = inv
