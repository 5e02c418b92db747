-- A headend that holds nothing issues one longest MAP after another, with the Ack Time that it has.
use mathlib.Core.Path.{◌≡◌, refl, ◌∙◌, ap}
use mathlib.Core.List.{List, ◌∷◌}
use Prim.Native.Nat.{ℕ, zero, suc, ◌+◌, ◌*◌, ◌<◌}
use native.Mathlib.Nat.{mod-eq_of_lt}
use native.Mathlib.Omega.{arith}
use lib.ListN.{replicate}
use borrow.Author.Tests.{le-ltb}
use Rattle.slots.specs.Time.{ahead}
use Rattle.slots.proofs.Rolling.{ahead_self}
use Rattle.headend.specs.declared.record.Headend.{Headend}
use Rattle.headend.specs.Requests.{spare}
use Rattle.headend.specs.Records.{with_places}
use Rattle.issuing.specs.Issue.{issue_of}
use Rattle.channel.specs.History.{from, Issue, State, step, after, spent}
use Rattle.channel.proofs.Computing.{rules}
use Rattle.channel.proofs.Histories.{start_at, issue}
use Rattle.std.specs.Prelude.{Ok}

-- the headend of the histories, holding nothing, once these are its next start and Ack Time
abbrev pub idle : ℕ → ℕ → Headend
idle next ack = with_places (start_at 0).headend (record { 0 = next }) (record { 0 = ack }) 0 (replicate 64 spare)

module _ (ack : ℕ) where
  -- the MAP that it issues at a next start
  abbrev pub longest : ℕ → Issue
  longest next = record { before = idle next ack; ack = ack; c = 4096; budget = 4096 }

  -- n such MAPs from a next start on, before those issued already: newest first
  unfoldable pub idled : ℕ → ℕ → List Issue → List Issue
  idled zero next js = js
  idled (suc n) next js = idled n (next + 4096) (longest next ∷ js)

  -- the state once they are issued
  abbrev pub idling : ℕ → ℕ → State → State
  idling n next s = record { headend = idle (next + 4096 * n) ack; stations = s.stations; issues = idled n next s.issues; flying = s.flying; log = s.log }

  -- the oldest stay where they were
  pub from_idled : (n next k : ℕ) (js : List Issue) → from (n + k) (idled n next js) ≡ from k js
  unfolding idled
  from_idled zero next k js = let e : 0 + k ≡ k = omega arith in rw e refl
  from_idled (suc n) next k js = let e : suc n + k ≡ n + suc k = omega arith in rw e (from_idled n (next + 4096) (suc k) (longest next ∷ js))

  spent_longest : (next : ℕ) (js : List Issue) → spent (longest next ∷ js) ≡ 4096 + spent js
  unfolding rules
  spent_longest next js = refl

  pub spent_idled : (n next : ℕ) (js : List Issue) → spent (idled n next js) ≡ 4096 * n + spent js
  unfolding idled
  spent_idled zero next js = omega arith
  spent_idled (suc n) next js = spent_idled n (next + 4096) (longest next ∷ js) ∙ omega (arith, spent_longest next js)

  module _ (clock : ack < 4294967296) where
    issue_idle : (next : ℕ) → next + 4096 < 4294967296 → issue_of (idle next ack) ack 4096 4096 280 ≡ record { headend = idle (next + 4096) ack; answer = Ok 24 }
    unfolding rules
    issue_idle next h = let first = ahead_self 32 ack in rw (le-ltb (ahead 32 ack next) (ahead 32 ack ack) (omega arith), mod-eq_of_lt h) refl

    idle_step : (next : ℕ) (s : State) → s.headend ≡ idle next ack → next + 4096 < 4294967296 → step s (issue ack 4096 4096) ≡ idling 1 next s
    unfolding step idled
    idle_step next s e h = rw (e, mod-eq_of_lt clock, issue_idle next h) refl

    pub idle_run : (n next : ℕ) (s : State) → s.headend ≡ idle next ack → next + 4096 * n < 4294967296 → after (replicate n (issue ack 4096 4096)) s ≡ idling n next s
    unfolding after idled
    idle_run zero next s e h = let z : next + 4096 * 0 ≡ next = omega arith in rw z (rw e refl)
    idle_run (suc n) next s e h =
        let z : next + 4096 + 4096 * n ≡ next + 4096 * suc n = omega arith in
        ap (after (replicate n (issue ack 4096 4096))) (idle_step next s e (omega arith)) ∙ idle_run n (next + 4096) (idling 1 next s) refl (omega arith) ∙ rw z refl
