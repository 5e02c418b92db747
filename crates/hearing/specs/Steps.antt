-- Document 01, "The station": of the four steps of an accepted MAP, the first and the last.
use Rattle.std.specs.Prelude.{ℕ, zero, suc, Bool, cond, List, [], ◌∷◌}
use Rattle.station.specs.declared.record.Phase.{Phase}
use Rattle.station.specs.declared.record.Phase.TheVariants.{Idle, Wanting, Deferring, Waiting}
use Rattle.std.specs.Prelude.{Option, Some, None}
use Rattle.slots.specs.declared.time.MiniSlot.{MiniSlot}

-- 1. There is a grant: "any state becomes Idle, except Waiting with a pending for the SID in the same MAP, which stays as it is. Then the MAP is done with."
unfoldable pub granted : Bool → Phase → Phase
granted pending Idle = Idle
granted pending (Wanting size) = Idle
granted pending (Deferring exponent left retries size) = Idle
granted pending (Waiting exponent retries time size) = cond pending (Waiting exponent retries time size) Idle

-- 4. "passes contention opportunities in order until none are left to pass and sends in the next one; if the MAP ends first, the count left is kept. Sending makes it Waiting, request time the opportunity's first mini-slot."
unfoldable pub passing : List ℕ → ℕ → ℕ → ℕ → ℕ → Phase
passing [] exponent left retries size = Deferring exponent left retries size
passing (t ∷ ts) exponent zero retries size = Waiting exponent retries (record { 0 = t }) size
passing (t ∷ ts) exponent (suc left) retries size = passing ts exponent left retries size

-- .. "with a usable Request to its own SID anywhere in this MAP sends in the first such"
unfoldable pub offered_own : List ℕ → List ℕ → ℕ → ℕ → ℕ → ℕ → Phase
offered_own [] contention exponent left retries size = passing contention exponent left retries size
offered_own (t ∷ ts) contention exponent left retries size = Waiting exponent retries (record { 0 = t }) size

unfoldable pub sending : List ℕ → List ℕ → Phase → Phase
sending own contention Idle = Idle
sending own contention (Wanting size) = Wanting size
sending own contention (Deferring exponent left retries size) = offered_own own contention exponent left retries size
sending own contention (Waiting exponent retries time size) = Waiting exponent retries time size

-- the request sent in step 4, by the phases before and after it: only a Deferring station sends, and is then Waiting
unfoldable pub waiting_since : Phase → Option MiniSlot
waiting_since Idle = None
waiting_since (Wanting size) = None
waiting_since (Deferring exponent left retries size) = None
waiting_since (Waiting exponent retries time size) = Some time

unfoldable pub sent_by : Phase → Phase → Option MiniSlot
sent_by Idle after = None
sent_by (Wanting size) after = None
sent_by (Deferring exponent left retries size) after = waiting_since after
sent_by (Waiting exponent retries time size) after = None
