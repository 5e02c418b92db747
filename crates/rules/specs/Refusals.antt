-- Document 01, "Refusal numbers": every refusal by its name, and its number.
use Rattle.std.specs.Prelude.{ℕ, Result, Ok, Err}
use Rattle.rules.specs.declared.refusal.Reason.{Reason}
use Rattle.rules.specs.declared.refusal.Reason.TheVariants.{Short, Count, Length, Backoff, Use, Null, Sid, Place, Span, Grant, Room, Channel, Description, Stale, Late, Busy, Size, Passed, Unannounced, Held, Full, Ack, Plan, Selfcheck}
use Rattle.rules.specs.declared.refusal.Refusal.{Refusal}

abbrev pub number_of : Reason → ℕ
number_of Short = 1
number_of Count = 2
number_of Length = 3
number_of Backoff = 4
number_of Use = 5
number_of Null = 10
number_of Sid = 6
number_of Place = 7
number_of Span = 8
number_of Grant = 9
number_of Room = 11
number_of Channel = 12
number_of Description = 13
number_of Stale = 14
number_of Late = 15
number_of Busy = 16
number_of Size = 17
number_of Passed = 20
number_of Unannounced = 21
number_of Held = 18
number_of Full = 19
number_of Ack = 22
number_of Plan = 23
number_of Selfcheck = 24

-- "The answer names the element"
abbrev pub refusal : Reason → ℕ → Refusal
refusal reason element = record { reason = reason; element = element }

-- checks one after the other: the refusal of the first, or else what follows
module _ {A : Type 0} where
  abbrev pub unless : Result Unit Reason → ℕ → Result A Refusal → Result A Refusal
  unless (Ok u) element rest = rest
  unless (Err reason) element rest = Err (refusal reason element)

  -- a refusal "changes" nothing: what there is then, or what there was
  abbrev pub changed : Result Unit Reason → A → A → A
  changed (Ok u) after before = after
  changed (Err reason) after before = before

-- .. or else the second
abbrev pub then : Result Unit Reason → Result Unit Reason → Result Unit Reason
then (Ok u) second = second
then (Err reason) second = Err reason
