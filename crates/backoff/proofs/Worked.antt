-- Numbers of the paper, computed by the definitions that the promises cite: the backoff. Its tables and those of hearing are of one form.
use mathlib.Core.Path.{◌≡◌, refl}
use mathlib.Core.Bool.{Bool, true, false, ◌&&◌}
use mathlib.Core.List.{List, [], ◌∷◌}
use Prim.Native.Nat.{ℕ}
use lib.Dec.{eqb}
use Rattle.slots.specs.Time.{ahead, earlier}
use Rattle.rules.specs.declared.fields.Fields.{Fields}
use Rattle.station.specs.declared.record.Phase.{Phase}
use Rattle.station.specs.declared.record.Phase.TheVariants.{Idle, Wanting, Deferring, Waiting}
use Rattle.backoff.specs.Backoffs.{first_exponent, next_exponent}
use Rattle.backoff.specs.Steps.{lost, acknowledged, deferred}

-- a phase as numbers
abbrev pub phase : Phase → List ℕ
phase Idle = 0 ∷ []
phase (Wanting size) = 1 ∷ size ∷ []
phase (Deferring exponent left retries size) = 2 ∷ exponent ∷ left ∷ retries ∷ size ∷ []
phase (Waiting exponent retries time size) = 3 ∷ exponent ∷ retries ∷ time.0 ∷ size ∷ []

abbrev pub fields : ℕ → ℕ → Fields
fields start ack = record { channel = 1; count = 2; start = record { 0 = start }; ack = record { 0 = ack }; ranging = record { start = 0; end = 4 }; «data» = record { start = 2; end = 4 } }

abbrev pub waiting : ℕ → ℕ → Phase
waiting retries time = Waiting 2 retries (record { 0 = time }) 20

abbrev pub same : List ℕ → List ℕ → Bool
same [] [] = true
same [] (y ∷ ys) = false
same (x ∷ xs) [] = false
same (x ∷ xs) (y ∷ ys) = eqb x y && same xs ys

pub record Case : Type 0 where
  pub computed : List ℕ
  pub paper : List ℕ

abbrev pub case : List ℕ → List ℕ → Case
case computed paper = record { computed = computed; paper = paper }

abbrev pub all : List Case → Bool
all [] = true
all (c ∷ cs) = same c.computed c.paper && all cs

-- a phase after steps 2 and 3, by the Ack Time; no pending, draw 7
abbrev ready : ℕ → Phase → List ℕ
ready ack p = phase (deferred (fields 1000 ack) 7 (acknowledged 32 false (fields 1000 ack) 7 p))

pub table : List Case
table =
    -- exponents from start 2, end 4: 2, 3, 4, 4
    case (first_exponent (fields 0 0) ∷ next_exponent (fields 0 0) 2 ∷ next_exponent (fields 0 0) 3 ∷ next_exponent (fields 0 0) 4 ∷ []) (2 ∷ 3 ∷ 4 ∷ 4 ∷ [])
    -- request time 500: Ack 500 still waiting, Ack 501 lost
    ∷ case (ready 500 (waiting 0 500)) (3 ∷ 2 ∷ 0 ∷ 500 ∷ 20 ∷ [])
    ∷ case (ready 501 (waiting 0 500)) (2 ∷ 3 ∷ 7 ∷ 1 ∷ 20 ∷ [])
    -- the 17th loss drops the packet
    ∷ case (ready 501 (waiting 16 500)) (0 ∷ [])
    -- Wanting defers 7 mod 4
    ∷ case (ready 0 (Wanting 20)) (2 ∷ 2 ∷ 3 ∷ 0 ∷ 20 ∷ [])
    ∷ []

pub worked : all table ≡ true
unfolding table ahead earlier lost acknowledged deferred
worked = refl
