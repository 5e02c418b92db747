-- The start: what is freshly set up meets the invariant.
use mathlib.Core.Path.{◌≡◌, refl}
use Rattle.std.proofs.Common.{Ok, Err}
use mathlib.Core.Bool.{Bool, true, false, not, ◌||◌}
use mathlib.Core.List.Memᴰ
use mathlib.Core.List.{[]}
use Prim.Native.Nat.{ℕ, ◌<◌}
use native.Mathlib.Omega.{arith}
use lib.Dec.{leb}
use borrow.Author.Tests.{ne_eqb, leb-true, not-false}
use Rattle.message.specs.Lists.{listed}
use Rattle.rules.specs.Sids.{unicast}
use Rattle.rules.specs.Backoffs.{bad_backoff}
use Rattle.rules.specs.Refusals.{refusal}
use Rattle.station.specs.declared.record.Station.{Station}
use Rattle.station.specs.Records.{bad_r}
use Rattle.station.specs.Offering as offering
use Rattle.headend.specs.declared.record.Headend.{Headend}
use Rattle.headend.specs.Requests.{held_of}
use Rattle.headend.specs.Records as records
use Rattle.channel.specs.History.{State, station_at}
use Rattle.channel.specs.Claims.{FreshHeadend, FreshStation, Fresh}
use Rattle.channel.proofs.Timing.{at_base}
use Rattle.channel.proofs.Keeping.{and_left, and_right}
use Rattle.channel.proofs.Holding.{Places}
use Rattle.channel.proofs.Invariant.{Steady, Inv}
use Rattle.channel.proofs.Invariant.Case.{quiet}
use Rattle.std.specs.Prelude.{None, Result, Ok, Err}
use Rattle.rules.specs.declared.refusal.Refusal.{Refusal}
use Rattle.rules.specs.declared.refusal.Reason.TheVariants.{Backoff, Sid, Size}

-- a headend that was set up
record NewHeadend (h : Headend) : Type 0 where
  pub first_ack : h.ack ≡ h.next
  pub clock : h.next.0 < 4294967296
  pub places : Places h
  pub none_held : held_of h ≡ []

new_headend : (h : Headend) (channel count : ℕ) → FreshHeadend h channel count → NewHeadend h
unfolding records.set_up_of held_of listed
new_headend h channel count f = go (bad_backoff f.ranging || bad_backoff f.data_backoff) refl
  where
    go : (b : Bool) → (bad_backoff f.ranging || bad_backoff f.data_backoff) ≡ b → NewHeadend h
    go true e = let z : ◌≡◌ {A = Result Headend Refusal} (Err (refusal Backoff 0)) (Ok h) = rw e at f.set_up in absurd (let y : ◌≡◌ {A = ℕ} 0 1 = cc in omega arith)
    go false e =
        let z : ◌≡◌ {A = Result Headend Refusal} (Ok (records.fresh f.next channel count f.ranging f.data_backoff f.short)) (Ok h) = rw e at f.set_up in
        let is : records.fresh f.next channel count f.ranging f.data_backoff f.short ≡ h = cc in
        rw (← is) (record { first_ack = refl; clock = f.clock; places = record { requests = refl }; none_held = refl })

-- a station that was set up
record NewStation (st : Station) : Type 0 where
  pub unheard : st.end ≡ None
  pub steady : Steady st.sid st.r

new_station : (st : Station) (channel count : ℕ) → FreshStation st channel count → NewStation st
unfolding offering.set_up_of
new_station st channel count f = go (not (unicast f.sid)) refl (bad_r f.r) refl
  where
    go : (a : Bool) → not (unicast f.sid) ≡ a → (b : Bool) → bad_r f.r ≡ b → NewStation st
    go true p b q = let z : ◌≡◌ {A = Result Station Refusal} (Err (refusal Sid 0)) (Ok st) = rw p at f.set_up in absurd (let y : ◌≡◌ {A = ℕ} 0 1 = cc in omega arith)
    go false p true q = let z : ◌≡◌ {A = Result Station Refusal} (Err (refusal Size 0)) (Ok st) = rw (p, q) at f.set_up in absurd (let y : ◌≡◌ {A = ℕ} 0 1 = cc in omega arith)
    go false p false q =
        let z : ◌≡◌ {A = Result Station Refusal} (Ok (offering.fresh f.sid channel count f.r)) (Ok st) = rw (p, q) at f.set_up in
        let is : offering.fresh f.sid channel count f.r ≡ st = cc in
        let u : unicast f.sid ≡ true = not-false _ p in
        let low = leb-true 1 f.sid (and_left (leb 1 f.sid) (leb f.sid 0x1FFF) u) in
        let high = leb-true f.sid 0x1FFF (and_right (leb 1 f.sid) (leb f.sid 0x1FFF) u) in
        rw (← is) (record {
          unheard = refl;
          steady = record { single = ne_eqb 0x3FFF f.sid (λ e. omega arith); nonzero = ne_eqb 0 f.sid (λ e. omega arith); asks = leb-true 1 f.r (and_left (leb 1 f.r) (leb f.r 16) (not-false _ q)) };
        })

pub inv_fresh : (s : State) → Fresh s → Inv s.headend.next.0 s
inv_fresh s f =
    let B = s.headend.next.0 in
    let h = new_headend s.headend f.channel f.count f.headend in
    record {
      line = record {
        chain = rw f.none_issued (at_base B);
        ack_next = rw h.first_ack (omega arith);
        acks = λ j m. absurd (Memᴰ.not-nil (rw f.none_issued at m));
        contents = λ j m. absurd (Memᴰ.not-nil (rw f.none_issued at m));
        clock = h.clock;
      };
      places = h.places;
      apart = f.different;
      each = λ i l. let n = new_station (station_at s i) f.channel f.count (f.stations i l) in record {
        steady = n.steady;
        upto = rw n.unheard (omega arith);
        which = quiet (rw h.none_held refl) (rw f.none_flying refl) (λ j m _ _. absurd (Memᴰ.not-nil (rw f.none_issued at m)));
      };
      covered = λ x m. absurd (Memᴰ.not-nil (rw f.none_sent at m));
      owned_flying = λ q m. absurd (Memᴰ.not-nil (rw f.none_flying at m));
      owned_held = λ q m. absurd (Memᴰ.not-nil (rw h.none_held at m));
    }
