-- The requests held, by number, and after one more.
use mathlib.Core.Path.{◌≡◌, refl, ◌∙◌, ap}
use mathlib.Core.List.{[], ◌∷◌, ◌++◌}
use Prim.Native.Nat.{◌+◌, ◌≤◌, ◌<◌}
use native.Mathlib.Omega.{arith}
use native.Mathlib.Nat.{zero-add, min-eq_left}
use lib.ListN.{length}
use lib.Seq.{get_or-set_same, get_or-set_other}
use Rattle.message.specs.Lists.{listed}
use Rattle.message.proofs.Lists.{listed_last, length_listed}
use Rattle.headend.specs.declared.record.Request.{Request}
use Rattle.headend.specs.declared.record.Headend.{Headend}
use Rattle.headend.specs.Requests.{spare, request_at, held_of}
use Rattle.headend.specs.Records.{with_places, joined}
use Rattle.headend.proofs.Scans.{listed_agree}

pub held_is : (h : Headend) → h.held ≤ 64 → held_of h ≡ listed (request_at h) 0 h.held
unfolding held_of
held_is h few = rw (min-eq_left few) refl

pub length_held : (h : Headend) → h.held ≤ 64 → length (held_of h) ≡ h.held
length_held h few = ap length (held_is h few) ∙ length_listed (request_at h) 0 h.held

-- "a request that isn't refused joins them, last"
pub held_joined : (h : Headend) (q : Request) → h.held < 64 → length h.requests ≡ 64 → held_of (joined h q) ≡ held_of h ++ (q ∷ [])
unfolding joined with_places
held_joined h q few full =
    let n = h.held in
    let after = request_at (joined h q) in
    let below : listed after 0 n ≡ listed (request_at h) 0 n = listed_agree after (request_at h) 0 n (λ j l. get_or-set_other h.requests n j q spare (λ e. omega arith)) in
    let last : after (0 + n) ≡ q = rw (zero-add n) (get_or-set_same h.requests n q spare (omega arith)) in
    held_is (joined h q) (omega arith) ∙ listed_last after 0 n ∙ rw (below, last, held_is h (omega arith)) refl
