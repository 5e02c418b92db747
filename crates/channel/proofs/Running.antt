-- The link to the code: what the four public functions return is what the step uses. Each by its contract's ensures, `Post`.
use mathlib.Core.Path.{◌≡◌, refl, sym, ◌∙◌, ap}
use mathlib.Core.List.{List, [], ◌∷◌, map}
use Prim.Native.Nat.{ℕ, zero, suc, ◌+◌, ◌*◌, ◌%◌, ◌^◌, ◌<◌}
use native.Mathlib.Omega.{arith}
use contract.Lifetimes
use borrow.Fn.World
use borrow.Fn.Kinds as Kinds'
use borrow.Author.Tests.{lt-ltb}
use denote.Triple.Clauses
use lib.ListN.{length, get_or, set, take, drop}
use lib.Seq.{take_at}
use Rattle.slots.specs.Time.{moved_on}
use Rattle.message.specs.declared.reading.Reading.{Reading}
use Rattle.message.specs.Map.{Interval, grants_to}
use Rattle.message.specs.Reading.{map_of, read_of}
use Rattle.message.specs.Grants.{kth_of, kth_grant, granted_at, grant_of}
use Rattle.writer.proofs.Stores.{length_message}
use Rattle.message.specs.contracts.grants.grant as grant'
use Rattle.message.proofs.grants.grant.Reads as grant
use Rattle.message.proofs.grants.grant.Kinds as grant_kinds
use Rattle.station.specs.declared.record.Station.{Station}
use Rattle.station.specs.contracts.record.Station.offer as offer'
use Rattle.station.proofs.record.Station.offer.Reads as offer
use Rattle.station.proofs.record.Station.offer.Kinds as offer_kinds
use Rattle.hearing.specs.contracts.hearing.hear as hear'
use Rattle.hearing.proofs.hearing.hear.Reads as hear
use Rattle.hearing.proofs.hearing.hear.Kinds as hear_kinds
use Rattle.headend.specs.declared.record.Headend.{Headend}
use Rattle.headend.specs.contracts.record.Headend.request as request'
use Rattle.headend.proofs.record.Headend.request.Reads as request
use Rattle.headend.proofs.record.Headend.request.Kinds as request_kinds
use Rattle.issuing.specs.declared.issuing.Issuing.{Issuing}
use Rattle.issuing.specs.Issue.{plan_of, plan_message, issue_fault, issue_of, issue_into}
use Rattle.issuing.specs.contracts.issuing.issue as issue'
use Rattle.issuing.proofs.issuing.issue.Reads as issue
use Rattle.issuing.proofs.issuing.issue.Kinds as issue_kinds
use Rattle.issuing.proofs.Selfcheck.{plan_count}
use Rattle.channel.specs.History.{pluck, from, Issue, bytes_of, map_in, Sending, bursts_by, State, station_at, nothing, Offer, Issue', Hear, Deliver, heard_by, asked, issues_after, step}
use Rattle.channel.proofs.Contents.{issue_called}
use Rattle.rules.specs.declared.refusal.Reason.{Reason}
use Rattle.rules.specs.declared.refusal.Refusal.{Refusal}
use Rattle.rules.specs.Refusals.{refusal}
use Rattle.std.specs.Prelude.{Option, Some, Result, Ok, Err}
use Rattle.message.specs.declared.grants.Granted.{Granted}

-- Station::offer
module _ (κs : Lifetimes.Lfts 0) (a : World.ArgsD offer'.signature κs) (r : World.ResD offer'.signature κs) (t : Clauses.AtExit (Kinds'.ended_of 0 offer_kinds.ps offer_kinds.r) κs) (post : offer.Post κs a r t) where
  pub offer_code : (s : State) (i : ℕ) → a.0 ≡ station_at s i →
      step s (Offer i a.1.0) ≡ record { headend = s.headend; stations = set s.stations i r.station; issues = s.issues; flying = s.flying; log = s.log }
  unfolding step
  offer_code s i e = rw (post, e) refl

-- hear, of the bytes of an issued MAP
module _ (κs : Lifetimes.Lfts 1) (a : World.ArgsD hear'.signature κs) (r : World.ResD hear'.signature κs) (t : Clauses.AtExit (Kinds'.ended_of 1 hear_kinds.ps hear_kinds.r) κs) (post : hear.Post κs a r t) where
  pub hear_code : (s : State) (i k : ℕ) (j : Issue) (js : List Issue) → i < length s.stations → from k s.issues ≡ j ∷ js → a.0 ≡ station_at s i → a.1.0.now ≡ bytes_of j →
      step s (Hear i k a.1.1.0.0 a.1.1.1.0) ≡ heard_by s i r (map_in j)
  unfolding step
  hear_code s i k j js h m e f = rw (lt-ltb i (length s.stations) h, m, post, e, f) refl

-- Headend::request, of the k-th request in flight
module _ (κs : Lifetimes.Lfts 0) (a : World.ArgsD request'.signature κs) (r : World.ResD request'.signature κs) (t : Clauses.AtExit (Kinds'.ended_of 0 request_kinds.ps request_kinds.r) κs) (post : request.Post κs a r t) where
  pub request_code : (s : State) (k : ℕ) → a.0 ≡ s.headend → record { sid = a.1.0; size = a.1.1.0; first = a.1.1.1.0 } ≡ get_or s.flying k nothing →
      step s (Deliver k) ≡ record { headend = r.headend; stations = s.stations; issues = s.issues; flying = pluck k s.flying; log = s.log }
  unfolding step
  request_code s k e f = rw (post, e, f) refl

-- what lies in the lent bytes
lent : (h : Headend) (ack c budget n : ℕ) (old : List ℕ) → (issue_of h ack c budget (length old)).answer ≡ Ok n → take n (issue_into h ack c budget old) ≡ plan_message h ack c budget
unfolding issue_of issue_into
lent h ack c budget n old e = go (issue_fault h ack c budget (length old)) refl
  where
    go : (b : Result Unit Reason) → issue_fault h ack c budget (length old) ≡ b → take n (issue_into h ack c budget old) ≡ plan_message h ack c budget
    go (Err why) f = let z : ◌≡◌ {A = Result ℕ Refusal} (Err (refusal why 0)) (Ok n) = rw f at e in absurd (let y : ◌≡◌ {A = ℕ} 0 1 = cc in omega arith)
    go (Ok u) f =
        let ok = issue_called h ack c budget (length old) f in
        let z : ◌≡◌ {A = Result ℕ Refusal} (Ok (24 + 4 * h.held)) (Ok n) = rw f at e in
        let same : 24 + 4 * h.held ≡ n = cc in
        let count = plan_count h ack c budget ok.known ok.plans in
        let long : length (plan_message h ack c budget) ≡ n = length_message (plan_of h ack c budget).fields (plan_of h ack c budget).elements old ∙ omega arith in
        rw f (take_at (plan_message h ack c budget) (drop (length (plan_message h ack c budget)) old) n long)

-- issue, the lent bytes its room; and what it lays out are the bytes that stations hear
module _ (κs : Lifetimes.Lfts 1) (a : World.ArgsD issue'.signature κs) (r : World.ResD issue'.signature κs) (t : Clauses.AtExit (Kinds'.ended_of 1 issue_kinds.ps issue_kinds.r) κs) (post : issue.Post κs a r t)
    (s : State) (ack : ℕ) (same : a.0 ≡ s.headend) (time : a.1.0.0 ≡ ack % 2 ^ 32) where
  pub issue_code :
      step s (Issue' ack a.1.1.0 a.1.1.1.0 (length a.1.1.1.1.0.now)) ≡
      record { headend = r.headend; stations = s.stations; issues = issues_after r.answer (asked s ack a.1.1.0 a.1.1.1.0) s.issues; flying = s.flying; log = s.log }
  unfolding step
  issue_code = rw (post.0, same, time) refl

  pub issue_bytes : (n : ℕ) → r.answer ≡ Ok n → take n t.1.1.1.1.0.now ≡ bytes_of (asked s ack a.1.1.0 a.1.1.1.0)
  issue_bytes n e =
      let answer = ap (λ (i : Issuing). i.answer) (sym post.0) ∙ e in
      ap (take n) post.1 ∙ lent a.0 a.1.0.0 a.1.1.0 a.1.1.1.0 n a.1.1.1.1.0.now answer ∙ rw (same, time) refl

-- message::grant: it tells, one by one, the bursts that an accepted hearing logs
burst_at : (sid start k : ℕ) (none : Sending) (ks : List Interval) → k < length ks →
    let x = get_or (map (λ (k : Interval). record { sid = sid; first = moved_on 32 start k.first; size = k.length }) ks) k none in
    granted_at start (kth_of ks k) ≡ Some (record { first = record { 0 = x.first }; length = x.size })
unfolding kth_of
burst_at sid start k none [] h = absurd (omega arith)
burst_at sid start zero none (y ∷ ks) h = refl
burst_at sid start (suc k) none (y ∷ ks) h = burst_at sid start k none ks (omega arith)

module _ (κs : Lifetimes.Lfts 1) (a : World.ArgsD grant'.signature κs) (r : World.ResD grant'.signature κs) (t : Clauses.AtExit (Kinds'.ended_of 1 grant_kinds.ps grant_kinds.r) κs) (post : grant.Post κs a r t) where
  pub grant_code : (st : Station) (reading : Reading) (none : Sending) → a.1.0 ≡ st.sid → read_of a.0.now ≡ Ok reading → a.1.1.0 < length (grants_to st.sid (map_of a.0.now).elements) →
      let x = get_or (bursts_by st (map_of a.0.now)) a.1.1.0 none in r ≡ Ok (Some (record { first = record { 0 = x.first }; length = x.size }))
  unfolding grant_of kth_grant
  grant_code st reading none e ok h = post ∙ rw (ok, e) (ap (λ (g : Option Granted). Ok g) (burst_at st.sid (map_of a.0.now).fields.start.0 a.1.1.0 none (grants_to st.sid (map_of a.0.now).elements) h))
