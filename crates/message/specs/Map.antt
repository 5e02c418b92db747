-- Document 01, "The message": a MAP with its list of elements, and what the elements say.
use Rattle.std.specs.Prelude.{ℕ, ◌-◌, cond, ◌&&◌, List, [], ◌∷◌, eqb}
use Rattle.slots.specs.Time.{moved_on}
use Rattle.rules.specs.declared.element.Element.{Element}
use Rattle.rules.specs.declared.fields.Fields.{Fields}
use Rattle.message.specs.Lists.{keep}
use Rattle.rules.specs.Rules.{granting}

pub record Map : Type 0 where
  pub fields : Fields
  pub elements : List Element

pub record Interval : Type 0 where
  pub sid : ℕ
  pub iuc : ℕ
  pub first : ℕ
  pub length : ℕ

abbrev pub first_offset : List Element → ℕ
first_offset [] = 0
first_offset (e ∷ es) = e.offset

-- "An element's interval runs from its offset up to, not including, the next one's"; the Null "closes the intervals"
unfoldable pub intervals : List Element → List Interval
intervals [] = []
intervals (e ∷ es) = cond (eqb e.iuc 7) [] (record { sid = e.sid; iuc = e.iuc; first = e.offset; length = first_offset es - e.offset } ∷ intervals es)

-- "The Null's offset is the map length"
unfoldable pub map_length : List Element → ℕ
map_length [] = 0
map_length (e ∷ es) = cond (eqb e.iuc 7) e.offset (map_length es)

unfoldable pub after_null : List Element → List Element
after_null [] = []
after_null (e ∷ es) = cond (eqb e.iuc 7) es (after_null es)

-- "Each grant before the Null to the SID"
unfoldable pub grants_to : ℕ → List Element → List Interval
grants_to sid es = keep (λ k. granting k.iuc && eqb k.sid sid) (intervals es)

-- "5 or 6 there is a grant pending"
unfoldable pub pendings_to : ℕ → List Element → List Element
pendings_to sid es = keep (λ e. granting e.iuc && eqb e.sid sid) (after_null es)

-- the mini-slot at an offset of a MAP
abbrev pub time_at : Map → ℕ → ℕ
time_at m offset = moved_on 32 m.fields.start.0 offset

-- the end of a MAP
abbrev pub end_of : Map → ℕ
end_of m = time_at m (map_length m.elements)
