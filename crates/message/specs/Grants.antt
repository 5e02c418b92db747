-- Document 01, "The station": "The k-th grant to a SID, k from 0, can be asked for by first mini-slot and length; the message is checked first; there may be none".
use Rattle.std.specs.Prelude.{ℕ, zero, suc, List, [], ◌∷◌, Option, Some, None, Result, Ok, Err}
use Rattle.slots.specs.Time.{moved_on}
use Rattle.rules.specs.declared.element.Element.{Element}
use Rattle.rules.specs.declared.refusal.Refusal.{Refusal}
use Rattle.message.specs.declared.reading.Reading.{Reading}
use Rattle.message.specs.declared.grants.Found.{Found}
use Rattle.message.specs.declared.grants.Granted.{Granted}
use Rattle.message.specs.Map.{Map, Interval, grants_to}
use Rattle.message.specs.Reading.{map_of, read_of}

-- the k-th of some intervals
unfoldable pub kth_of : List Interval → ℕ → Option Found
kth_of [] k = None
kth_of (x ∷ xs) zero = Some (record { offset = x.first; length = x.length })
kth_of (x ∷ xs) (suc k) = kth_of xs k

unfoldable pub kth_grant : List Element → ℕ → ℕ → Option Found
kth_grant es sid k = kth_of (grants_to sid es) k

-- .. by its first mini-slot, rolled over
abbrev pub granted_at : ℕ → Option Found → Option Granted
granted_at start (Some found) = Some (record { first = record { 0 = moved_on 32 start found.offset }; length = found.length })
granted_at start None = None

abbrev pub grant_in : Map → ℕ → ℕ → Option Granted
grant_in m sid k = granted_at m.fields.start.0 (kth_grant m.elements sid k)

abbrev pub grant_by : Result Reading Refusal → Map → ℕ → ℕ → Result (Option Granted) Refusal
grant_by (Ok reading) m sid k = Ok (grant_in m sid k)
grant_by (Err why) m sid k = Err why

unfoldable pub grant_of : List ℕ → ℕ → ℕ → Result (Option Granted) Refusal
grant_of s sid k = grant_by (read_of s) (map_of s) sid k
