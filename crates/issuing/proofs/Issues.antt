-- The ways through issuing: one law each, about the definitions only.
use mathlib.Core.Path.{◌≡◌, refl, sym, ◌∙◌, ap}
use mathlib.Core.Bool.{Bool, true, false, cond, ◌||◌}
use mathlib.Core.List.{List, ◌++◌}
use Prim.Native.Nat.{ℕ, zero, suc, ◌+◌, ◌-◌, ◌*◌, ◌≤◌, ◌<◌}
use native.Mathlib.Omega.{arith}
use lib.Dec.{ltb, eqb}
use lib.ListN.{length, take, drop, replicate}
use lib.Seq.{take_at}
use Rattle.std.proofs.lemmas.List.{drop-replicate}
use borrow.Author.Tests.{ltb-false, eqb-false, le-leb, lt-ltb, le-ltb}
use Rattle.slots.specs.declared.time.MiniSlot.{MiniSlot}
use Rattle.slots.specs.Time.{moved_on}
use Rattle.rules.specs.declared.element.Element.{Element}
use Rattle.rules.specs.declared.fields.Fields.{Fields}
use Rattle.message.specs.Reading.{read_of}
use Rattle.writer.specs.Writing.{message_of, onto, laid_out}
use Rattle.writer.proofs.Stores.{length_message}
use Rattle.message.proofs.Ways.{passed, or_none, said, said_not}
use Rattle.headend.specs.declared.record.Headend.{Headend}
use Rattle.headend.specs.declared.record.Request.{Request}
use Rattle.headend.specs.Requests.{spare, held_of}
use Rattle.headend.specs.Records.{with_places, record_fault}
use Rattle.headend.proofs.Checks.{handed_on, record_valid}
use Rattle.headend.proofs.Tables.{length_held}
use Rattle.issuing.specs.declared.issuing.Issuing.{Issuing}
use Rattle.std.specs.Prelude.{Result, Ok, Err}
use Rattle.std.specs.Result.{is_err}
use Rattle.message.specs.declared.reading.Reading.{Reading}
use Rattle.rules.specs.declared.refusal.Refusal.{Refusal}
use Rattle.rules.specs.declared.refusal.Reason.{Reason}
use Rattle.rules.specs.declared.refusal.Reason.TheVariants.{Room, Ack, Plan, Selfcheck}
use Rattle.rules.specs.Refusals.{refusal, changed}
use Rattle.issuing.specs.Plan.{total}
use Rattle.issuing.specs.Issue.{granted_in, pending_in, plan_of, plan_message, bad_ack, bad_plan, refuses, call_fault, issue_fault, places_of, moved_to, issued_from, issue_of, issue_into}
use Rattle.issuing.specs.Scan.{message_by, selfchecked, accepted_into}
use Rattle.issuing.proofs.Held.{total_granted, length_granted}
use Rattle.issuing.proofs.Planned.{plan_length}

module _ (h : Headend) (ack c budget room : ℕ) (k : Result Unit Reason) (is : k ≡ record_fault h) where
  pub fault_record : (why : Reason) → k ≡ Err why → Err why ≡ call_fault h ack c budget room
  unfolding call_fault
  fault_record why e = rw (sym is ∙ e) refl

  module _ (good : k ≡ Ok tt) where
    pub fault_ack : bad_ack h ack ≡ true → Err Ack ≡ call_fault h ack c budget room
    unfolding call_fault
    fault_ack e = rw (sym is ∙ good, e) refl

    module _ (acks : bad_ack h ack ≡ false) where
      pub fault_plan : bad_plan c budget ≡ true → Err Plan ≡ call_fault h ack c budget room
      unfolding call_fault
      fault_plan e = rw (sym is ∙ good, acks, e) refl

      module _ (plans : bad_plan c budget ≡ false) where
        pub fault_room : room < 24 + 4 * h.held → Err Room ≡ call_fault h ack c budget room
        unfolding call_fault
        fault_room e = rw (sym is ∙ good, acks, plans, lt-ltb room (24 + 4 * h.held) e) refl

        pub fault_none : 24 + 4 * h.held ≤ room → Ok tt ≡ call_fault h ack c budget room
        unfolding call_fault
        fault_none e = rw (sym is ∙ good, acks, plans, le-ltb room (24 + 4 * h.held) e) refl

pub ruleset fault_ways = (said, said_not, fault_ack, fault_plan, fault_room, fault_none)

pub is_refused : (s : List ℕ) (r : Result Reading Refusal) (b : Bool) → r ≡ read_of s → b ≡ is_err r → b ≡ refuses (read_of s)
is_refused s r b e h = h ∙ rw e (go (read_of s))
  where
    go : (v : Result Reading Refusal) → is_err v ≡ refuses v
    go (Ok reading) = refl
    go (Err why) = refl

-- requests in the first of 64 spare places
pub placed : (qs : List Request) (out : List Request) → length qs ≤ 64 → out ≡ qs ++ drop (length qs) (replicate 64 spare) → out ≡ places_of qs
placed qs out few e = e ∙ ap (λ (l : List Request). qs ++ l) (drop-replicate (length qs) 64 spare)

pub moves : (h : Headend) (ack len : ℕ) (next : MiniSlot) (rest requests : List Request) (r : Headend) → next.0 ≡ moved_on 32 h.next.0 len → requests ≡ places_of rest → r ≡ with_places h next (record { 0 = ack }) (length rest) requests → r ≡ moved_to h ack len rest
unfolding moved_to
moves h ack len next rest requests r n b e =
    let next' : next ≡ record { 0 = moved_on 32 h.next.0 len } = λ i. record { 0 = n i } in
    rw (← b, ← next') e

-- the message stands at the front of the bytes that it was laid out in
pub made : (f : Fields) (es : List Element) (n : ℕ) (old new : List ℕ) → length es ≡ n → new ≡ laid_out f es old → 16 + 4 * n ≤ length old → take (16 + 4 * n) new ≡ message_of f es
unfolding laid_out
made f es n old new is e room =
    let size : length (message_of f es) ≡ 16 + 4 * n = length_message f es old ∙ omega arith in
    rw (e, le-leb (16 + 4 * length es) (length old) (omega arith)) (take_at (message_of f es) (drop (length (message_of f es)) old) (16 + 4 * n) size)

-- what a call without a fault is
pub record Called (h : Headend) (ack c budget room : ℕ) : Type 0 where
  pub known : record_fault h ≡ Ok tt
  pub acks : bad_ack h ack ≡ false
  pub plans : bad_plan c budget ≡ false
  pub some : 1 ≤ c
  pub most : budget ≤ 4096
  pub within : c ≤ budget
  pub fits : 24 + 4 * h.held ≤ room
  pub few : h.held ≤ 64

pub positive : (n : ℕ) → eqb n 0 ≡ false → 1 ≤ n
positive zero e = absurd (eqb-false 0 0 e refl)
positive (suc n) e = omega arith

-- 23 passed
pub plan_given : (c budget : ℕ) → bad_plan c budget ≡ false → (1 ≤ c) × ((budget ≤ 4096) × (c ≤ budget))
plan_given c budget e =
    let both = or_none (eqb c 0 || ltb 4096 budget) (ltb budget c) e in
    let each = or_none (eqb c 0) (ltb 4096 budget) both.0 in
    (positive c each.0, (ltb-false 4096 budget each.1, ltb-false budget c both.1))

pub called : (h : Headend) (ack c budget room : ℕ) → call_fault h ack c budget room ≡ Ok tt → Called h ack c budget room
unfolding call_fault
called h ack c budget room e =
    let zero = handed_on (record_fault h) _ e in
    let one = passed (bad_ack h ack) Ack _ zero.1 in
    let two = passed (bad_plan c budget) Plan _ one.1 in
    let three = passed (ltb room (24 + 4 * h.held)) Room (Ok tt) two.1 in
    let plan = plan_given c budget two.0 in
    record {
      known = zero.0;
      acks = one.0;
      plans = two.0;
      some = plan.0;
      most = plan.1.0;
      within = plan.1.1;
      fits = ltb-false room (24 + 4 * h.held) three.0;
      few = (record_valid h zero.0).few;
    }

-- a plan that was made, and what it keeps to
pub record Bounded (h : Headend) (c room : ℕ) (gs ps : List Request) (t : ℕ) : Type 0 where
  pub few : h.held ≤ 64
  pub held : length gs + length ps ≡ h.held
  pub fits : 24 + 4 * h.held ≤ room
  pub map : c + total gs ≤ 4096
  pub sum : t ≡ total gs

module _ (h : Headend) (c budget : ℕ) (gs ps : List Request) (t : ℕ) (granted' : gs ≡ granted_in h c budget) (pending' : ps ≡ pending_in h c budget) (total' : t ≡ total (granted_in h c budget)) where
  pub bounded : (ack room : ℕ) (k : Result Unit Reason) → k ≡ call_fault h ack c budget room → k ≡ Ok tt → Bounded h c room gs ps t
  bounded ack room k is good =
      let it = called h ack c budget room (sym is ∙ good) in
      record {
        few = it.few;
        held = rw (granted', pending') (length_granted (budget - c) (held_of h) ∙ length_held h it.few);
        fits = it.fits;
        map = rw granted' (omega (arith, total_granted (budget - c) (held_of h), it.within, it.most));
        sum = rw granted' total';
      }

  pub plan_by_lem : (ack : ℕ) → message_by h ack c gs ps ≡ plan_message h ack c budget
  unfolding plan_of
  plan_by_lem ack = rw (granted', pending') refl

  pub issued_by_lem : (ack : ℕ) → moved_to h ack (c + t) ps ≡ issued_from h ack c budget
  unfolding issued_from plan_of
  issued_by_lem ack = rw (plan_length h.short c (granted_in h c budget) (pending_in h c budget), ← total', pending') refl

-- what the lent bytes hold once the reader accepted the headend's own MAP
pub check_accepted : (own old : List ℕ) (b : Bool) (is : b ≡ refuses (read_of own)) (new : List ℕ) → b ≡ false → new ≡ own ++ drop (length own) old → (false ≡ refuses (read_of own)) × (new ≡ accepted_into own old)
check_accepted own old b is new e p = let it = sym is ∙ e in (sym it, rw it p)

-- what `issue` answers, and what the lent bytes hold then
module _ (h : Headend) (ack c budget : ℕ) (old : List ℕ) (k : Result Unit Reason) (is : k ≡ call_fault h ack c budget (length old)) where
  pub issue_refused : (why : Reason) (r : Issuing) → k ≡ Err why → r ≡ record { headend = h; answer = Err (refusal why 0) } → (r ≡ issue_of h ack c budget (length old)) × (old ≡ issue_into h ack c budget old)
  unfolding issue_of issue_into issue_fault
  issue_refused why r f e = (rw (sym is ∙ f) e, rw (sym is ∙ f) refl)

  module _ (good : k ≡ Ok tt) (gs ps : List Request) (t : ℕ) (granted' : gs ≡ granted_in h c budget) (pending' : ps ≡ pending_in h c budget) (total' : t ≡ total (granted_in h c budget))
      (v : Result Unit Reason) (new : List ℕ) (put : (v ≡ selfchecked (message_by h ack c gs ps)) × (new ≡ accepted_into (message_by h ack c gs ps) old)) where
    put' : (v ≡ selfchecked (plan_message h ack c budget)) × (new ≡ accepted_into (plan_message h ack c budget) old)
    put' = rw (plan_by_lem h c budget gs ps t granted' pending' total' ack) at put

    held_then : new ≡ issue_into h ack c budget old
    unfolding issue_into issue_fault
    held_then = rw (sym is ∙ good) (put'.1 ∙ go (refuses (read_of (plan_message h ack c budget))))
      where
        go : (b : Bool) → cond b old (onto (plan_message h ack c budget) old) ≡ changed (cond b (Err Selfcheck) (Ok tt)) (onto (plan_message h ack c budget) old) old
        go true = refl
        go false = refl

    pub issue_selfcheck : (why : Reason) (r : Issuing) → v ≡ Err why → r ≡ record { headend = h; answer = Err (refusal why 0) } → (r ≡ issue_of h ack c budget (length old)) × (new ≡ issue_into h ack c budget old)
    unfolding issue_of issue_fault
    issue_selfcheck why r e f = (rw (sym is ∙ good, sym put'.0 ∙ e) f, held_then)

    pub issue_done : (after : Headend) → v ≡ Ok tt → after ≡ moved_to h ack (c + t) ps → (record { headend = after; answer = Ok (24 + 4 * h.held) } ≡ issue_of h ack c budget (length old)) × (new ≡ issue_into h ack c budget old)
    unfolding issue_of issue_fault
    issue_done after e f = (rw (sym is ∙ good, sym put'.0 ∙ e, ← issued_by_lem h c budget gs ps t granted' pending' total' ack, ← f) refl, held_then)
