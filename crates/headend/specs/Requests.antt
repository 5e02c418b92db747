-- Document 01, "The headend": the requests held, in the order taken.
use Rattle.std.specs.Prelude.{ℕ, min, List, get_or}
use Rattle.message.specs.Lists.{listed}
use Rattle.headend.specs.declared.record.Request.{Request}
use Rattle.headend.specs.declared.record.Headend.{Headend}

-- what stands in a spare place
abbrev pub spare : Request
spare = record { sid = 0; size = 0; first = record { 0 = 0 } }

abbrev pub request_at : Headend → ℕ → Request
request_at h i = get_or h.requests i spare

-- "at most 64 requests"
unfoldable pub held_of : Headend → List Request
held_of h = listed (request_at h) 0 (min h.held 64)
