-- The reader accepts every plan of a valid headend: the headend never refuses its own MAP.
use mathlib.Core.Path.{◌≡◌, refl, sym, ◌∙◌}
use mathlib.Core.Bool.{Bool, true, false, cond, not, ◌&&◌}
use mathlib.Core.List.{List, [], ◌∷◌, ◌++◌}
use Prim.Native.Nat.{ℕ, suc, ◌+◌, ◌-◌, ◌≤◌, ◌<◌}
use native.Mathlib.Omega.{arith}
use native.Mathlib.Nat.{add-zero}
use lib.Dec.{leb, ltb}
use lib.ListN.{length}
use borrow.Author.Tests.{le-ltb, lt-leb, eq-eqb, not-false, leb-true}
use Rattle.rules.specs.declared.element.Element.{Element}
use Rattle.rules.specs.declared.rules.Progress.{Progress}
use Rattle.message.proofs.Accepted.{as_whole}
use Rattle.std.specs.Prelude.{Result, Ok, Err}
use Rattle.rules.specs.declared.refusal.Reason.{Reason}
use Rattle.rules.specs.declared.refusal.Reason.TheVariants.{Selfcheck}
use Rattle.rules.specs.Refusals.{then}
use Rattle.rules.specs.Sids.{within, unicast, sid_allowed}
use Rattle.rules.specs.Backoffs.{bad_backoffs}
use Rattle.rules.specs.Rules.{misordered, misplaced, fault_of, nothing_yet, advanced, ended_at, walked}
use Rattle.message.specs.Map.{map_length}
use Rattle.message.specs.Reading.{map_of, read_of}
use Rattle.rules.proofs.Ways.{no_fault}
use Rattle.message.proofs.Ways.{or_none}
use Rattle.writer.proofs.Trips.{Fits, whole_narrow, map_back, fields_back, reads_back}
use Rattle.std.specs.List.{list_any}
use Rattle.std.proofs.lemmas.List.Folds.{list_any-append}
use Rattle.headend.specs.declared.record.Headend.{Headend}
use Rattle.headend.specs.declared.record.Request.{Request}
use Rattle.headend.specs.Requests.{held_of}
use Rattle.headend.specs.Records.{bad_size, record_fault}
use Rattle.headend.proofs.Checks.{record_valid}
use Rattle.headend.proofs.Tables.{length_held}
use Rattle.issuing.specs.Plan.{total, grants, pendings, elements_of}
use Rattle.issuing.specs.Issue.{granted_in, pending_in, plan_of, plan_message, bad_plan, refuses, call_fault, issue_fault}
use Rattle.issuing.proofs.Held.{granted_pending, total_granted, length_granted}
use Rattle.issuing.proofs.Planned.{use_not_7, use_grants, null, plan_size, plan_length}
use Rattle.issuing.proofs.Issues.{called, plan_given}

-- an element without a fault is passed
walk_on : (i : ℕ) (p : Progress) (e : Element) (es : List Element) → Ok tt ≡ fault_of p e → walked i p (e ∷ es) ≡ walked (i + 1) (advanced p e i) es
unfolding walked
walk_on i p e es z = rw (← z) refl

-- no SID and no size of these is at fault
pub record Sane (qs : List Request) : Type 0 where
  pub sids : list_any (λ q. not (unicast q.sid)) qs ≡ false
  pub sizes : list_any (λ q. bad_size q.size) qs ≡ false

any_append : {A : Type 0} (p : A → Bool) (xs ys : List A) → list_any p (xs ++ ys) ≡ false → (list_any p xs ≡ false) × (list_any p ys ≡ false)
any_append p xs ys e = or_none (list_any p xs) (list_any p ys) (sym (list_any-append p xs ys) ∙ e)

both_of : (a b : Bool) → (a && b) ≡ true → (a ≡ true) × (b ≡ true)
both_of true b e = (refl, e)
both_of false b e = let z : ◌≡◌ {A = ℕ} 0 1 = cc in absurd (omega arith)

pub record SaneOne (q : Request) : Type 0 where
  pub sid : unicast q.sid ≡ true
  pub some : 1 ≤ q.size
  pub most : q.size ≤ 255

pub sane_cons : (q : Request) (qs : List Request) → Sane (q ∷ qs) → SaneOne q × Sane qs
sane_cons q qs s =
    let a = or_none (not (unicast q.sid)) (list_any (λ q. not (unicast q.sid)) qs) s.sids in
    let b = or_none (bad_size q.size) (list_any (λ q. bad_size q.size) qs) s.sizes in
    let size = both_of (leb 1 q.size) (leb q.size 255) (not-false (within 1 255 q.size) b.0) in
    (record { sid = not-false (unicast q.sid) a.0; some = leb-true 1 q.size size.0; most = leb-true q.size 255 size.1 }, record { sids = a.1; sizes = b.1 })

pub sane_split : (xs ys : List Request) → Sane (xs ++ ys) → Sane xs × Sane ys
sane_split xs ys s =
    let a = any_append (λ q. not (unicast q.sid)) xs ys s.sids in
    let b = any_append (λ q. bad_size q.size) xs ys s.sizes in
    (record { sids = a.0; sizes = b.0 }, record { sids = a.1; sizes = b.1 })

-- before the Null: the last offset, and whether it was a grant's
abbrev opened : ℕ → Bool → Progress
opened offset grant = record { first = false; closed = false; null = 0; offset = offset; granting = grant }

-- after it: its number, and the map length
abbrev shut : ℕ → ℕ → Progress
shut n length = record { first = false; closed = true; null = n; offset = length; granting = false }

not_too_long : (g : Bool) (last o : ℕ) → (g ≡ true → o ≤ last + 255) → (g && ltb (last + 255) o) ≡ false
not_too_long true last o h = le-ltb (last + 255) o (h refl)
not_too_long false last o h = refl

first_clean : Ok tt ≡ fault_of nothing_yet (record { sid = 0x3FFF; iuc = 1; offset = 0 })
unfolding fault_of misordered misplaced sid_allowed
first_clean = refl

module _ (last o : ℕ) (g : Bool) (after : last < o) (short : g ≡ true → o ≤ last + 255) (far : o ≤ 4096) where
  grant_clean : (sid : ℕ) (b : Bool) → unicast sid ≡ true → Ok tt ≡ fault_of (opened last g) (record { sid = sid; iuc = cond b 5 6; offset = o })
  unfolding misordered misplaced sid_allowed
  grant_clean sid true u = no_fault (opened last g) (record { sid = sid; iuc = 5; offset = o }) refl refl (rw u refl) (lt-leb o last after) (le-ltb 4096 o far) (not_too_long g last o short)
  grant_clean sid false u = no_fault (opened last g) (record { sid = sid; iuc = 6; offset = o }) refl refl (rw u refl) (lt-leb o last after) (le-ltb 4096 o far) (not_too_long g last o short)

  null_clean : Ok tt ≡ fault_of (opened last g) (null o)
  unfolding misordered misplaced sid_allowed
  null_clean = no_fault (opened last g) (null o) refl refl refl (lt-leb o last after) (le-ltb 4096 o far) (not_too_long g last o short)

module _ (n l : ℕ) where
  pending_clean : (sid : ℕ) → unicast sid ≡ true → Ok tt ≡ fault_of (shut n l) (record { sid = sid; iuc = 5; offset = l })
  unfolding misordered misplaced sid_allowed
  pending_clean sid u = no_fault (shut n l) (record { sid = sid; iuc = 5; offset = l }) refl refl (rw u refl) (rw (eq-eqb l l refl) refl) refl refl

  walk_pendings : (i : ℕ) (qs : List Request) → Sane qs → walked i (shut n l) (pendings l qs) ≡ as_whole n l
  unfolding pendings walked ended_at advanced
  walk_pendings i [] s = refl
  walk_pendings i (q ∷ qs) s =
      let one = sane_cons q qs s in
      rw (← pending_clean q.sid one.0.sid) (walk_pendings (i + 1) qs one.1)

module _ (short l : ℕ) (ps : List Request) (sane : Sane ps) (far : l ≤ 4096) where
  walk_grants : (i o last : ℕ) (g : Bool) (qs : List Request) → Sane qs → last < o → (g ≡ true → o ≤ last + 255) → o + total qs ≡ l → walked i (opened last g) (grants short o qs ++ (null l ∷ pendings l ps)) ≡ as_whole (i + length qs) l
  unfolding grants total advanced
  walk_grants i o last g [] s a b e =
      let same : l ≡ o = omega arith in
      walk_on i (opened last g) (null l) (pendings l ps) (null_clean last l g (omega arith) (λ t. omega (arith, b t)) far)
      ∙ walk_pendings i l (i + 1) ps sane
      ∙ rw (add-zero i) refl
  walk_grants i o last g (q ∷ qs) s a b e =
      let one = sane_cons q qs s in
      let more : i + suc (length qs) ≡ i + 1 + length qs = omega arith in
      let d = leb q.size short in
      let step = walk_on i (opened last g) (record { sid = q.sid; iuc = cond d 5 6; offset = o }) (grants short (o + q.size) qs ++ (null l ∷ pendings l ps)) (grant_clean last o g a b (omega arith) q.sid d one.0.sid) in
      rw more (step ∙ rw (use_not_7 d, use_grants d) (walk_grants (i + 1) (o + q.size) o true qs one.1 (omega (arith, one.0.some)) (λ t. omega (arith, one.0.most)) (omega arith)))

-- the walk passes every element of a plan, and ends with the Null's place and the map length
pub plan_walked : (short c : ℕ) (gs ps : List Request) → 1 ≤ c → c + total gs ≤ 4096 → Sane gs → Sane ps → walked 0 nothing_yet (elements_of short c gs ps) ≡ as_whole (1 + length gs) (c + total gs)
unfolding elements_of advanced
plan_walked short c gs ps some far a b =
    walk_on 0 nothing_yet (record { sid = 0x3FFF; iuc = 1; offset = 0 }) (grants short c gs ++ (null (c + total gs) ∷ pendings (c + total gs) ps)) first_clean
    ∙ walk_grants short (c + total gs) ps b far 1 c 0 false gs a (omega arith) (λ t. absurd (let z : ◌≡◌ {A = ℕ} 0 1 = cc in omega arith)) refl

-- a valid headend, and a plan that isn't refused
module _ (h : Headend) (ack c budget : ℕ) (valid : record_fault h ≡ Ok tt) (plans : bad_plan c budget ≡ false) where
  abbrev pub gs : List Request
  gs = granted_in h c budget

  abbrev pub ps : List Request
  ps = pending_in h c budget

  sane_held : Sane (held_of h)
  sane_held = let v = record_valid h valid in record { sids = v.sids; sizes = v.sizes }

  pub sane_both : Sane gs × Sane ps
  sane_both = sane_split gs ps (rw (granted_pending (budget - c) (held_of h)) sane_held)

  pub plan_bounds : (1 ≤ c) × ((c + total gs ≤ budget) × (budget ≤ 4096))
  plan_bounds = let b = plan_given c budget plans in (b.0, (omega (arith, total_granted (budget - c) (held_of h), b.1.1), b.1.0))

  -- the map length is the contention and what is granted
  pub map_length_lem : map_length (plan_of h ack c budget).elements ≡ c + total gs
  unfolding plan_of
  map_length_lem = plan_length h.short c gs ps

  pub map_length_between : (c ≤ map_length (plan_of h ack c budget).elements) × (map_length (plan_of h ack c budget).elements ≤ budget)
  map_length_between = rw map_length_lem (omega arith, plan_bounds.1.0)

  pub plan_count : length (plan_of h ack c budget).elements ≡ h.held + 2
  unfolding plan_of
  plan_count = let few = (record_valid h valid).few in omega (arith, plan_size h.short c gs ps, length_granted (budget - c) (held_of h), length_held h few)

  pub walk_accepts : walked 0 nothing_yet (plan_of h ack c budget).elements ≡ as_whole (1 + length gs) (c + total gs)
  unfolding plan_of
  walk_accepts = plan_walked h.short c gs ps plan_bounds.0 (omega (arith, plan_bounds.1.0, plan_bounds.1.1)) sane_both.0 sane_both.1

  good_backoffs : bad_backoffs (plan_of h ack c budget).fields ≡ false
  unfolding plan_of bad_backoffs
  good_backoffs = (record_valid h valid).backoffs

  -- the reader accepts the MAP, with the plan's fields and elements
  module _ (fits : Fits (plan_of h ack c budget).fields) where
    pub reads_plan : read_of (plan_message h ack c budget) ≡ Ok (record { fields = (plan_of h ack c budget).fields; n = h.held + 2; null = 1 + length gs; length = c + total gs })
    reads_plan =
        let n = plan_count in
        let few = (record_valid h valid).few in
        rw (← n) (reads_back (plan_of h ack c budget).fields fits (plan_of h ack c budget).elements (omega arith) (1 + length gs) (c + total gs) good_backoffs (omega arith) walk_accepts)

    pub map_plan : map_of (plan_message h ack c budget) ≡ plan_of h ack c budget
    map_plan =
        let n = plan_count in
        let few = (record_valid h valid).few in
        let f = (plan_of h ack c budget).fields in
        let es = (plan_of h ack c budget).elements in
        let narrow = whole_narrow (1 + length gs) (c + total gs) 0 nothing_yet es (λ t. absurd (let z : ◌≡◌ {A = ℕ} 0 1 = cc in omega arith)) walk_accepts in
        λ i. record { fields = fields_back f fits es (omega arith) i; elements = map_back f fits es (omega arith) narrow i }

pub plan_fits : (h : Headend) (ack c budget : ℕ) → h.next.0 < 4294967296 → ack < 4294967296 → Fits (plan_of h ack c budget).fields
unfolding plan_of
plan_fits h ack c budget n a = record { start = n; ack = a }

-- so 24 is never given: what is refused, is refused before the MAP is made
pub selfcheck_never : (h : Headend) (ack c budget room : ℕ) → h.next.0 < 4294967296 → ack < 4294967296 → issue_fault h ack c budget room ≡ call_fault h ack c budget room
unfolding issue_fault
selfcheck_never h ack c budget room n a = go (call_fault h ack c budget room) refl
  where
    go : (f : Result Unit Reason) → call_fault h ack c budget room ≡ f → then f (cond (refuses (read_of (plan_message h ack c budget))) (Err Selfcheck) (Ok tt)) ≡ f
    go (Ok u) p =
        let k = called h ack c budget room p in
        rw (reads_plan h ack c budget k.known k.plans (plan_fits h ack c budget n a)) refl
    go (Err why) p = refl
