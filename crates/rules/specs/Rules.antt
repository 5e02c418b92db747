-- Document 01, "The message" and "Refusal numbers": the rules of the elements, in the order 5, 10, 6, 7, 8, 9.
use Rattle.std.specs.Prelude.{ℕ, ◌+◌, Bool, true, false, cond, not, ◌&&◌, ◌||◌, List, [], ◌∷◌, leb, ltb, eqb, Result, Ok, Err}
use Rattle.rules.specs.declared.element.Element.{Element}
use Rattle.rules.specs.declared.rules.Progress.{Progress}
use Rattle.rules.specs.declared.rules.Whole.{Whole}
use Rattle.rules.specs.declared.refusal.Reason.{Reason}
use Rattle.rules.specs.declared.refusal.Reason.TheVariants.{Use, Null, Sid, Place, Span, Grant}
use Rattle.rules.specs.declared.refusal.Refusal.{Refusal}
use Rattle.rules.specs.Sids.{within, sid_allowed}
use Rattle.rules.specs.Refusals.{refusal, unless}

-- "A grant (use 5 or 6)"
abbrev pub granting : ℕ → Bool
granting iuc = eqb iuc 5 || eqb iuc 6

-- a grant to a SID; after the Null, a pending
abbrev pub grants_sid : Element → ℕ → Bool
grants_sid e sid = granting e.iuc && eqb e.sid sid

-- 5: "not 1 to 8 (house rule)"
abbrev pub unknown_use : Element → Bool
unknown_use e = not (within 1 8 e.iuc)

-- 10: "Null first; use 8 before the Null; other than 5, 6, 8 after it"
unfoldable pub misordered : Progress → Element → Bool
misordered p e = cond p.closed (not (granting e.iuc || eqb e.iuc 8)) (eqb e.iuc 8 || (p.first && eqb e.iuc 7))

-- 6: "not allowed for that use"
abbrev pub wrong_sid : Element → Bool
wrong_sid e = not (sid_allowed e.iuc e.sid)

-- 7: "The first element has offset 0. Up to and including the Null, each offset is greater than the one before"; after it "offset equal to the map length"
unfoldable pub misplaced : Progress → Element → Bool
misplaced p e = cond p.closed (not (eqb e.offset p.offset)) (cond p.first (not (eqb e.offset 0)) (leb e.offset p.offset))

-- 8: "offset over 4,096 up to the Null"
abbrev pub too_far : Progress → Element → Bool
too_far p e = not p.closed && ltb 4096 e.offset

-- 9: "the grant closed by this element is over 255"
abbrev pub grant_too_long : Progress → Element → Bool
grant_too_long p e = p.granting && ltb (p.offset + 255) e.offset

-- the first of 5, 10, 6, 7 that an element breaks, which it can wherever it stands
unfoldable pub standing_fault : Progress → Element → Result Unit Reason
standing_fault p e =
    cond (unknown_use e) (Err Use)
    (cond (misordered p e) (Err Null)
    (cond (wrong_sid e) (Err Sid)
    (cond (misplaced p e) (Err Place) (Ok tt))))

-- the first rule that an element breaks
unfoldable pub fault_of : Progress → Element → Result Unit Reason
fault_of p e =
    cond (unknown_use e) (Err Use)
    (cond (misordered p e) (Err Null)
    (cond (wrong_sid e) (Err Sid)
    (cond (misplaced p e) (Err Place)
    (cond (too_far p e) (Err Span)
    (cond (grant_too_long p e) (Err Grant) (Ok tt))))))

abbrev pub nothing_yet : Progress
nothing_yet = record { first = true; closed = false; null = 0; offset = 0; granting = false }

-- what is known once element i has passed: the Null closes the intervals, and its offset is the map length
unfoldable pub advanced : Progress → Element → ℕ → Progress
advanced p e i =
    cond p.closed p
    (cond (eqb e.iuc 7) (record { first = false; closed = true; null = i; offset = e.offset; granting = false })
    (record { first = false; closed = false; null = 0; offset = e.offset; granting = granting e.iuc }))

-- "a missing Null last", with "n if the Null is missing"
unfoldable pub ended_at : ℕ → Progress → Result Whole Refusal
ended_at n p = cond p.closed (Ok (record { null = p.null; length = p.offset })) (Err (refusal Null n))

-- "element by element": these are the elements from number i on
unfoldable pub walked : ℕ → Progress → List Element → Result Whole Refusal
walked i p [] = ended_at i p
walked i p (e ∷ es) =
    let rest = walked (i + 1) (advanced p e i) es in
    unless (fault_of p e) i rest
