-- Document 01's numbers of the message, computed with the definitions that the contracts cite.
use mathlib.Core.Path.{◌≡◌, refl}
use mathlib.Core.Bool.{Bool, true, false, ◌&&◌}
use mathlib.Core.List.{List, [], ◌∷◌}
use Prim.Native.Nat.{ℕ}
use lib.Dec.{eqb}
use Rattle.rules.specs.declared.element.Element.{Element}
use Rattle.std.specs.Prelude.{Result, Ok, Err}
use Rattle.rules.specs.declared.rules.Whole.{Whole}
use Rattle.rules.specs.declared.refusal.Refusal.{Refusal}
use Rattle.rules.specs.Refusals.{number_of}
use Rattle.rules.specs.Sids.{sid_allowed}
use Rattle.rules.specs.Rules.{misordered, misplaced, fault_of, nothing_yet, advanced, ended_at, walked}

abbrev pub element : ℕ → ℕ → ℕ → Element
element sid iuc offset = record { sid = sid; iuc = iuc; offset = offset }

abbrev pub whole : ℕ → ℕ → Result Whole Refusal → Bool
whole null length (Ok w) = eqb null w.null && eqb length w.length
whole null length (Err why) = false

abbrev pub fault_at : ℕ → ℕ → Result Whole Refusal → Bool
fault_at number place (Ok w) = false
fault_at number place (Err why) = eqb number (number_of why.reason) && eqb place why.element

abbrev pub walk : List Element → Result Whole Refusal
walk es = walked 0 nothing_yet es

abbrev pub request : Element
request = element 0x3FFF 1 0

unfoldable pub walks : Bool
walks =
    whole 2 265 (walk (request ∷ element 5 6 10 ∷ element 0 7 265 ∷ []))
    && fault_at 9 2 (walk (request ∷ element 5 6 10 ∷ element 0 7 266 ∷ []))
    && whole 1 4096 (walk (request ∷ element 0 7 4096 ∷ []))
    && fault_at 8 1 (walk (request ∷ element 0 7 4097 ∷ []))
    && fault_at 10 1 (walk (request ∷ []))
    && fault_at 10 0 (walk (element 0 7 0 ∷ []))
    && fault_at 10 2 (walk (request ∷ element 0 7 30 ∷ element 0 7 30 ∷ []))
    && fault_at 9 1 (walk (element 5 6 0 ∷ element 0x3FFF 1 256 ∷ element 0 9 300 ∷ []))
    && fault_at 7 0 (walk (element 0x3FFF 1 5000 ∷ []))

pub numbers : walks ≡ true
unfolding walks sid_allowed misordered misplaced fault_of advanced ended_at walked
numbers = refl
