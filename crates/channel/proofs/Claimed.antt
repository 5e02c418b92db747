-- What (b) and (c) come to for one request, as computed histories meet them or break them.
use mathlib.Core.Path.{◌≡◌, refl, sym, ◌∙◌, ap}
use mathlib.Core.Bool.{Bool, true, not, ◌&&◌}
use mathlib.Core.List.{List, [], ◌∷◌, Memᴰ}
use Prim.Native.Nat.{ℕ, zero, suc, ◌<◌}
use lib.Dec.{eqb}
use lib.ListN.{length, get_or}
use borrow.Author.Tests.{eq-eqb}
use Rattle.slots.specs.Time.{earlier}
use Rattle.station.specs.declared.record.Phase.{Phase}
use Rattle.station.specs.declared.record.Phase.TheVariants.{Idle, Wanting, Deferring, Waiting}
use Rattle.station.specs.declared.record.Station.{Station}
use Rattle.hearing.specs.Hearing.{hear_of}
use Rattle.headend.specs.declared.record.Request.{Request}
use Rattle.headend.specs.Requests.{held_of}
use Rattle.channel.specs.History.{Issue, bytes_of, map_in, State, nobody, station_at}
use Rattle.channel.specs.Claims.{HeldWaits, WaitingHeld}
use Rattle.channel.proofs.Keeping.{clash, and_left, and_right}
use Rattle.slots.specs.declared.time.MiniSlot.{MiniSlot}
use Rattle.std.specs.Prelude.{Option, Ok}

-- a phase that does not wait on a request sent at t
abbrev elsewhere : ℕ → Phase → Bool
elsewhere t Idle = true
elsewhere t (Wanting size) = true
elsewhere t (Deferring exponent left retries size) = true
elsewhere t (Waiting exponent retries time size) = not (eqb time.0 t)

-- no station waits on a request sent at t
unfoldable pub unawaited : ℕ → List Station → Bool
unawaited t [] = true
unawaited t (st ∷ sts) = elsewhere t st.phase && unawaited t sts

unawaited_at : (t : ℕ) (sts : List Station) (i : ℕ) → unawaited t sts ≡ true → elsewhere t (get_or sts i nobody).phase ≡ true
unfolding unawaited
unawaited_at t [] i e = refl
unawaited_at t (st ∷ sts) zero e = and_left (elsewhere t st.phase) (unawaited t sts) e
unawaited_at t (st ∷ sts) (suc i) e = unawaited_at t sts i (and_right (elsewhere t st.phase) (unawaited t sts) e)

-- (b) fails: a request is held, and nobody waits on it
pub held_alone : (s : State) (q : Request) → held_of s.headend ≡ q ∷ [] → unawaited q.first.0 s.stations ≡ true → HeldWaits s → ⊥
held_alone s q e u claim = go (claim q (rw e (Memᴰ.head refl)))
  where
    go : (i : ℕ) × (i < length s.stations) × ((station_at s i).sid ≡ q.sid) × ((exponent : ℕ) × (retries : ℕ) × ((station_at s i).phase ≡ Waiting exponent retries q.first q.size)) → ⊥
    go (i, h, f, (x, r, w)) = clash (elsewhere q.first.0 (station_at s i).phase) (unawaited_at q.first.0 s.stations i u) (ap (elsewhere q.first.0) w ∙ ap not (eq-eqb q.first.0 q.first.0 refl))

-- what (c) asks: station i accepts MAP j, and then still waits on its request q, which is earlier than the Ack Time
pub record Outlasts (s : State) (i : ℕ) (j : Issue) (q : Request) : Type 0 where
  pub present : ℕ
  pub draw : ℕ
  pub bursts : ℕ
  pub request : Option MiniSlot
  pub exponent : ℕ
  pub retries : ℕ
  pub inside : i < length s.stations
  pub issued : Memᴰ j s.issues
  pub accepts : (hear_of (station_at s i) (bytes_of j) present draw).answer ≡ Ok (record { bursts = bursts; request = request })
  pub waits : (hear_of (station_at s i) (bytes_of j) present draw).station.phase ≡ Waiting exponent retries q.first q.size
  pub passed : earlier 32 q.first.0 (map_in j).fields.ack.0 ≡ true
  pub its : q.sid ≡ (station_at s i).sid

-- .. and what it answers: that very request was held when that MAP was issued
pub was_held : (s : State) (i : ℕ) (j : Issue) (q : Request) → WaitingHeld s → Outlasts s i j q → Memᴰ q (held_of j.before)
was_held s i j q claim o = go (claim i o.inside j o.issued o.present o.draw o.bursts o.request o.accepts o.exponent o.retries q.size q.first o.waits o.passed)
  where
    go : (p : Request) × Memᴰ p (held_of j.before) × (p.sid ≡ (station_at s i).sid) × (p.size ≡ q.size) × (p.first ≡ q.first) → Memᴰ q (held_of j.before)
    go (p, m, a, b, c) =
        let same : p ≡ q = λ k. record { sid = (a ∙ sym o.its) k; size = b k; first = c k } in
        rw same at m
