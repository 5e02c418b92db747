-- The mission's form of the premise: all times lie within less than 2^31 mini-slots.
use mathlib.Core.Path.{◌≡◌, refl, sym, ◌∙◌, ap}
use mathlib.Core.Bool.{Bool, true, false, cond}
use mathlib.Core.List.{List, [], ◌∷◌, Memᴰ}
use Prim.Native.Nat.{ℕ, ◌+◌, ◌%◌, ◌^◌, ◌≤◌, ◌<◌}
use native.Mathlib.Nat.{mod-lt}
use native.Mathlib.Omega.{arith}
use lib.Dec.{ltb}
use lib.Pow.{pow_pos}
use lib.ListN.{length}
use Rattle.slots.specs.Time.{moved_on}
use Rattle.message.specs.Map.{end_of}
use Rattle.headend.specs.declared.record.Headend.{Headend}
use Rattle.headend.specs.declared.record.Request.{Request}
use Rattle.headend.specs.Records.{with_places, request_fault, joined, request_of}
use Rattle.issuing.specs.Issue.{issue_fault, issue_of}
use Rattle.channel.specs.History.{from, Issue, map_in, State, Event, Offer, Issue', Hear, Deliver, Lose, heard_at, asked, step, after, spent}
use Rattle.channel.specs.Claims.{Fresh, Safe, Within}
use Rattle.channel.proofs.Timing.{at, at_moved}
use Rattle.channel.proofs.Contents.{issue_called, contents, next_is, length_fits}
use Rattle.channel.proofs.Invariant.{length_of}
use Rattle.channel.proofs.Start.{inv_fresh}
use Rattle.channel.proofs.Theorem.{safe_spent}
use Rattle.rules.specs.declared.refusal.Reason.{Reason}
use Rattle.std.specs.Prelude.{Result, Ok, Err}

-- the MAPs follow one another on the clock, however often it rolled over
abbrev Linked : ℕ → List Issue → Type 0
Linked next [] = Unit {0}
Linked next (j ∷ js) = (next ≡ end_of (map_in j)) × (length_of j ≤ 4096) × Linked (map_in j).fields.start.0 js

abbrev Linking : State → Type 0
Linking s = (s.headend.next.0 < 4294967296) × Linked s.headend.next.0 s.issues

next_stays : (h : Headend) (q : Request) → (request_of h q).headend.next ≡ h.next
unfolding request_of joined with_places
next_stays h q = go (request_fault h q) refl
  where
    go : (b : Result Unit Reason) → request_fault h q ≡ b → (request_of h q).headend.next ≡ h.next
    go (Ok u) e = rw e refl
    go (Err why) e = rw e refl

linking_issue : (s : State) (ack c budget room : ℕ) → Linking s → Linking (step s (Issue' ack c budget room))
unfolding step issue_of
linking_issue s ack c budget room l = go (issue_fault s.headend (ack % 2 ^ 32) c budget room) refl
  where
    j : Issue
    j = asked s ack c budget

    go : (b : Result Unit Reason) → issue_fault s.headend (ack % 2 ^ 32) c budget room ≡ b → Linking (step s (Issue' ack c budget room))
    go (Err why) e = rw e l
    go (Ok u) e =
        let ok = issue_called s.headend (ack % 2 ^ 32) c budget room e in
        let fits = mod-lt ack (pow_pos 32) in
        let told = contents j room ok l.0 fits in
        let next = next_is j room ok l.0 fits in
        rw e (rw next (mod-lt _ (pow_pos 32)), (next ∙ ap (λ (x : ℕ). moved_on 32 x (length_of j)) (sym told.start), length_fits j room ok l.0 fits, rw told.start l.1))

linking_step : (s : State) (e : Event) → Linking s → Linking (step s e)
unfolding step
linking_step s (Offer i size) l = l
linking_step s (Issue' ack c budget room) l = linking_issue s ack c budget room l
linking_step s (Hear i k present draw) l = go (ltb i (length s.stations)) (from k s.issues)
  where
    go : (b : Bool) (js : List Issue) → Linking (cond b (heard_at s i js present draw) s)
    go true [] = l
    go true (j ∷ js) = l
    go false js = l
linking_step s (Deliver k) l = rw (next_stays s.headend _) l
linking_step s (Lose k) l = l

linking_after : (es : List Event) (s : State) → Linking s → Linking (after es s)
unfolding after
linking_after [] s l = l
linking_after (e ∷ es) s l = linking_after es (step s e) (linking_step s e l)

module _ (E : ℕ) where
  spent_at : (next : ℕ) (js : List Issue) → Linked next js → ((j : Issue) → Memᴰ j js → at E (map_in j).fields.start.0 < 2147483648) → spent js ≤ at E next
  unfolding spent
  spent_at next [] l h = omega arith
  spent_at next (j ∷ js) l h =
      let ih = spent_at (map_in j).fields.start.0 js l.2 (λ k m. h k (Memᴰ.tail m)) in
      let b = h j (Memᴰ.head refl) in
      let z : at E next ≡ at E (map_in j).fields.start.0 + length_of j = ap (at E) l.0 ∙ at_moved E (map_in j).fields.start.0 (length_of j) (omega arith) in
      omega arith

  spent_small : (next : ℕ) (js : List Issue) → Linked next js → ((j : Issue) → Memᴰ j js → at E (map_in j).fields.start.0 < 2147483648) →
      ((j : Issue) → Memᴰ j js → at E (end_of (map_in j)) < 2147483648) → spent js < 2147483648
  unfolding spent
  spent_small next [] l h k = omega arith
  spent_small next (j ∷ js) l h k = let a = spent_at next (j ∷ js) l h in let b = k j (Memᴰ.head refl) in let z = ap (at E) l.0 in omega arith

-- demand 3, with the premise in the mission's words
pub safe : (s : State) → Fresh s → (es : List Event) (E : ℕ) → Within (after es s) E → Safe (after es s)
unfolding at
safe s f es E w =
    let l = linking_after es s ((inv_fresh s f).line.clock, rw f.none_issued tt) in
    safe_spent s f es (spent_small E (after es s).headend.next.0 (after es s).issues l.1 w.starts w.ends)
