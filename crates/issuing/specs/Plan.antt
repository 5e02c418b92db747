-- Document 01, "The headend": the plan of a MAP.
use Rattle.std.specs.Prelude.{ℕ, ◌+◌, ◌-◌, cond, List, [], ◌∷◌, ◌++◌, leb}
use Rattle.rules.specs.declared.element.Element.{Element}
use Rattle.headend.specs.declared.record.Request.{Request}

-- "grants of full size in held order, stopping at the first that would pass the budget": those granted, where room mini-slots are left
unfoldable pub granted : ℕ → List Request → List Request
granted room [] = []
granted room (q ∷ qs) = cond (leb q.size room) (q ∷ granted (room - q.size) qs) []

-- .. and "every request not granted, in held order"
unfoldable pub pending : ℕ → List Request → List Request
pending room [] = []
pending room (q ∷ qs) = cond (leb q.size room) (pending (room - q.size) qs) (q ∷ qs)

unfoldable pub total : List Request → ℕ
total [] = 0
total (q ∷ qs) = q.size + total qs

-- "use 5 up to the short limit, else 6"
abbrev pub use_of : ℕ → Request → ℕ
use_of short q = cond (leb q.size short) 5 6

-- the grants, one after the other from an offset on
unfoldable pub grants : ℕ → ℕ → List Request → List Element
grants short offset [] = []
grants short offset (q ∷ qs) = record { sid = q.sid; iuc = use_of short q; offset = offset } ∷ grants short (offset + q.size) qs

-- "a pending (use 5)"
unfoldable pub pendings : ℕ → List Request → List Element
pendings offset [] = []
pendings offset (q ∷ qs) = record { sid = q.sid; iuc = 5; offset = offset } ∷ pendings offset qs

-- "broadcast Request of c; then grants ..; Null; a pending (use 5) for every request not granted"
unfoldable pub elements_of : ℕ → ℕ → List Request → List Request → List Element
elements_of short c gs ps =
    record { sid = 0x3FFF; iuc = 1; offset = 0 }
    ∷ (grants short c gs ++ (record { sid = 0; iuc = 7; offset = c + total gs } ∷ pendings (c + total gs) ps))
