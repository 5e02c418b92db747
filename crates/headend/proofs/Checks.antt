-- The ways through set-up, the check of a record, and a request: one law each, about the definitions only.
use mathlib.Core.Path.{◌≡◌, refl, sym, ◌∙◌}
use Rattle.std.specs.Prelude.{Result, Ok, Err}
use Rattle.rules.specs.declared.refusal.Reason.{Reason}
use Rattle.rules.specs.declared.refusal.Reason.TheVariants as reason
use Rattle.rules.specs.declared.refusal.Reason.TheVariants.{Sid, Size, Passed, Unannounced, Held, Full}
use Rattle.rules.specs.declared.refusal.Refusal.{Refusal}
use Rattle.rules.specs.Refusals.{refusal, then}
use Rattle.std.specs.List.{list_any}
use mathlib.Core.Bool.{Bool, true, false, not, ◌||◌}
use mathlib.Core.List.{List}
use Prim.Native.Nat.{ℕ, ◌≤◌, ◌<◌}
use native.Mathlib.Omega.{arith}
use lib.Dec.{leb, ltb, eqb}
use borrow.Author.Tests.{lt-ltb, le-ltb, le-leb, lt-leb, eq-eqb, ne_eqb, not-true, not-false, ltb-false, leb-false, eqb-true, eqb-false}
use Rattle.slots.specs.declared.time.MiniSlot.{MiniSlot}
use Rattle.slots.specs.Time.{earlier}
use Rattle.rules.specs.declared.fields.Backoff.{Backoff}
use Rattle.rules.specs.Backoffs.{bad_backoff}
use Rattle.rules.specs.Sids.{unicast}
use Rattle.message.proofs.Ways.{said, said_not, passed}
use Rattle.headend.specs.declared.record.Headend.{Headend}
use Rattle.headend.specs.declared.record.Request.{Request}
use Rattle.headend.specs.Requests.{held_of}
use Rattle.headend.specs.Records.{fresh, set_up_of, bad_size, record_fault, request_fault, joined, request_of}

module _ (next : MiniSlot) (channel count : ℕ) (ranging data_backoff : Backoff) (short : ℕ) (a b : Bool) (x : a ≡ bad_backoff ranging) (y : b ≡ bad_backoff data_backoff) where
  pub new_bad : (r : Refusal) → (a || b) ≡ true → r ≡ refusal reason.Backoff 0 → Err r ≡ set_up_of next channel count ranging data_backoff short
  unfolding set_up_of
  new_bad r e k = rw (← x, ← y, e, k) refl

  pub new_good : (a || b) ≡ false → Ok (fresh next channel count ranging data_backoff short) ≡ set_up_of next channel count ranging data_backoff short
  unfolding set_up_of
  new_good e = rw (← x, ← y, e) refl

module _ (h : Headend) (a b : Bool) (x : a ≡ bad_backoff h.ranging) (y : b ≡ bad_backoff h.«data») where
  pub record_backoff : (a || b) ≡ true → Err reason.Backoff ≡ record_fault h
  unfolding record_fault
  record_backoff e = rw (← x, ← y, e) refl

  module _ (good : (a || b) ≡ false) where
    module _ (held : List Request) (is : held ≡ held_of h) where
      pub record_sid : list_any (λ q. not (unicast q.sid)) held ≡ true → Err Sid ≡ record_fault h
      unfolding record_fault
      record_sid e = rw (← x, ← y, good, ← is, e) refl

      module _ (e : list_any (λ q. not (unicast q.sid)) held ≡ false) where
        pub record_many : 64 < h.held → Err Size ≡ record_fault h
        unfolding record_fault
        record_many f = rw (← x, ← y, good, ← is, e, lt-ltb 64 h.held f) refl

        pub record_size : h.held ≤ 64 → list_any (λ q. bad_size q.size) held ≡ true → Err Size ≡ record_fault h
        unfolding record_fault
        record_size f g = rw (← x, ← y, good, ← is, e, le-ltb 64 h.held f, g) refl

        pub record_good : h.held ≤ 64 → list_any (λ q. bad_size q.size) held ≡ false → Ok tt ≡ record_fault h
        unfolding record_fault
        record_good f g = rw (← x, ← y, good, ← is, e, le-ltb 64 h.held f, g) refl

module _ (h : Headend) (q : Request) (k : Result Unit Reason) (is : k ≡ record_fault h) where
  pub request_record : (why : Reason) → k ≡ Err why → Err why ≡ request_fault h q
  unfolding request_fault
  request_record why a = rw (sym is ∙ a) refl

  module _ (good : k ≡ Ok tt) where
    good' : record_fault h ≡ Ok tt
    good' = sym is ∙ good

    pub request_sid : not (unicast q.sid) ≡ true → Err Sid ≡ request_fault h q
    unfolding request_fault
    request_sid a = rw (good', a) refl

    module _ (a : not (unicast q.sid) ≡ false) where
      pub request_size : bad_size q.size ≡ true → Err Size ≡ request_fault h q
      unfolding request_fault
      request_size b = rw (good', a, b) refl

      module _ (b : bad_size q.size ≡ false) where
        pub request_passed : earlier 32 q.first.0 h.ack.0 ≡ true → Err Passed ≡ request_fault h q
        unfolding request_fault
        request_passed e = rw (good', a, b, e) refl

        module _ (e : earlier 32 q.first.0 h.ack.0 ≡ false) where
          pub request_early : earlier 32 q.first.0 h.next.0 ≡ false → Err Unannounced ≡ request_fault h q
          unfolding request_fault
          request_early f = rw (good', a, b, e, f) refl

          module _ (f : earlier 32 q.first.0 h.next.0 ≡ true) where
            module _ (held : List Request) (all : held ≡ held_of h) where
              pub request_held : list_any (λ p. eqb p.sid q.sid) held ≡ true → Err Held ≡ request_fault h q
              unfolding request_fault
              request_held g = rw (good', a, b, e, f, ← all, g) refl

              module _ (g : list_any (λ p. eqb p.sid q.sid) held ≡ false) where
                pub request_full : 64 ≤ h.held → Err Full ≡ request_fault h q
                unfolding request_fault
                request_full l = rw (good', a, b, e, f, ← all, g, le-leb 64 h.held l) refl

                pub request_good : h.held < 64 → Ok tt ≡ request_fault h q
                unfolding request_fault
                request_good l = rw (good', a, b, e, f, ← all, g, lt-leb 64 h.held l) refl

-- checks that end well have passed the first
pub handed_on : (k x : Result Unit Reason) → then k x ≡ Ok tt → (k ≡ Ok tt) × (x ≡ Ok tt)
handed_on (Ok u) x e = (refl, e)
handed_on (Err why) x e = absurd (let z : ◌≡◌ {A = ℕ} 0 1 = cc in omega arith)

-- what a record without a fault is
pub record Valid (h : Headend) : Type 0 where
  pub backoffs : (bad_backoff h.ranging || bad_backoff h.«data») ≡ false
  pub sids : list_any (λ q. not (unicast q.sid)) (held_of h) ≡ false
  pub few : h.held ≤ 64
  pub sizes : list_any (λ q. bad_size q.size) (held_of h) ≡ false

pub record_valid : (h : Headend) → record_fault h ≡ Ok tt → Valid h
unfolding record_fault
record_valid h e =
    let one = passed (bad_backoff h.ranging || bad_backoff h.«data») reason.Backoff _ e in
    let two = passed (list_any (λ q. not (unicast q.sid)) (held_of h)) Sid _ one.1 in
    let three = passed (ltb 64 h.held) Size _ two.1 in
    let four = passed (list_any (λ q. bad_size q.size) (held_of h)) Size (Ok tt) three.1 in
    record { backoffs = one.0; sids = two.0; few = ltb-false 64 h.held three.0; sizes = four.0 }

-- what a request without a fault is
pub record Welcome (h : Headend) (q : Request) : Type 0 where
  pub known : record_fault h ≡ Ok tt
  pub unicasts : unicast q.sid ≡ true
  pub fits : bad_size q.size ≡ false
  pub current : earlier 32 q.first.0 h.ack.0 ≡ false
  pub announced : earlier 32 q.first.0 h.next.0 ≡ true
  pub new : list_any (λ p. eqb p.sid q.sid) (held_of h) ≡ false
  pub few : h.held < 64

pub request_welcome : (h : Headend) (q : Request) → request_fault h q ≡ Ok tt → Welcome h q
unfolding request_fault
request_welcome h q e =
    let zero = handed_on (record_fault h) _ e in
    let one = passed (not (unicast q.sid)) Sid _ zero.1 in
    let two = passed (bad_size q.size) Size _ one.1 in
    let three = passed (earlier 32 q.first.0 h.ack.0) Passed _ two.1 in
    let four = passed (not (earlier 32 q.first.0 h.next.0)) Unannounced _ three.1 in
    let five = passed (list_any (λ p. eqb p.sid q.sid) (held_of h)) Held _ four.1 in
    let six = passed (leb 64 h.held) Full (Ok tt) five.1 in
    record { known = zero.0; unicasts = not-false (unicast q.sid) one.0; fits = two.0; current = three.0; announced = not-false (earlier 32 q.first.0 h.next.0) four.0; new = five.0; few = leb-false 64 h.held six.0 }

module _ (h : Headend) (q : Request) (k : Result Unit Reason) (is : k ≡ request_fault h q) where
  pub few_held : k ≡ Ok tt → h.held < 64
  few_held z = (request_welcome h q (sym is ∙ z)).few

  pub request_refused : (why : Reason) (r : Refusal) → k ≡ Err why → r ≡ refusal why 0 → record { headend = h; answer = Err r } ≡ request_of h q
  unfolding request_of
  request_refused why r a b = rw (b, sym is ∙ a) refl

  pub request_taken : (r : Headend) → k ≡ Ok tt → r ≡ joined h q → record { headend = r; answer = Ok tt } ≡ request_of h q
  unfolding request_of
  request_taken r a b = rw (sym is ∙ a, ← b) refl

pub ruleset ways = (said, said_not, not-true, new_bad, new_good, record_backoff, record_sid, record_many, record_size, record_good)

pub ruleset request_ways = (said, request_record, request_sid, request_size, request_passed, request_early, request_held, request_full, request_good)
