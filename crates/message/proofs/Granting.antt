-- The scan for the k-th grant.
use mathlib.Core.Path.{◌≡◌, refl, sym, ◌∙◌}
use mathlib.Core.Bool.{Bool, true, false, cond}
use mathlib.Core.Logic.{◌⊎◌, inl, inr}
use mathlib.Core.List.{List, [], ◌∷◌}
use Prim.Native.Nat.{ℕ, zero, suc, ◌+◌, ◌-◌, ◌*◌, ◌≤◌, ◌<◌}
use native.Mathlib.Omega.{arith}
use native.Mathlib.Nat.{sub-zero}
use lib.Dec.{eqb}
use lib.ListN.{length}
use borrow.Author.Tests.{lt-leb, ne_eqb, eqb-true}
use Rattle.slots.proofs.Rolling.{order}
use Rattle.rules.specs.declared.element.Element.{Element}
use Rattle.std.specs.Prelude.{Option, Some, None, Ok, Err}
use Rattle.message.specs.declared.grants.Found.{Found}
use Rattle.message.specs.declared.grants.Granted.{Granted}
use Rattle.message.specs.declared.reading.Reading.{Reading}
use Rattle.rules.specs.declared.refusal.Refusal.{Refusal}
use Rattle.slots.specs.declared.time.MiniSlot.{MiniSlot}
use Rattle.slots.specs.Time.{moved_on}
use Rattle.rules.specs.declared.fields.Fields.{Fields}
use Rattle.message.specs.Fields.{fields_of}
use Rattle.message.specs.Reading.{read_of}
use Rattle.message.specs.Element.{element_at}
use Rattle.message.specs.Map.{Interval, first_offset, intervals, grants_to}
use Rattle.message.specs.Lists.{listed}
use Rattle.message.proofs.Accepted.{accepted}
use Rattle.message.specs.Grants.{kth_of, kth_grant, granted_at, grant_of}
use Rattle.rules.specs.Rules.{grants_sid}
use Rattle.message.specs.Scan.{hits, passed_by}

pub past_end : (s : List ℕ) (n : ℕ) → length s ≤ 16 + 4 * n → (element_at s n).offset ≡ 0
unfolding element_at
past_end s n h = rw (lt-leb (20 + 4 * n) (length s) (omega arith)) refl

pub listed_more : {A : Type 0} (el : ℕ → A) (n i : ℕ) → i < n → listed el i (n - i) ≡ el i ∷ listed el (i + 1) (n - (i + 1))
unfolding listed
listed_more el n i h = let one : n - i ≡ suc (n - (i + 1)) = omega arith in rw one refl

pub listed_none : {A : Type 0} (el : ℕ → A) (n i : ℕ) → n ≤ i → listed el i (n - i) ≡ []
unfolding listed
listed_none el n i h = let none : n - i ≡ 0 = omega arith in rw none refl

-- where nothing stands past the last element, the next offset is that of the next number
pub listed_first : (el : ℕ → Element) (n i : ℕ) → i ≤ n → (el n).offset ≡ 0 → first_offset (listed el i (n - i)) ≡ (el i).offset
listed_first el n i h z = go (order n i)
  where
    go : (n ≤ i) ⊎ (i < n) → first_offset (listed el i (n - i)) ≡ (el i).offset
    go (inl k) = let same : i ≡ n = omega arith in rw (listed_none el n i k, same) (sym z)
    go (inr k) = rw (listed_more el n i k) refl

-- what is left of a scan gives the answer of the whole; el says what stands at each number
module _ (el : ℕ → Element) (n sid : ℕ) (whole : Option Found) (i left : ℕ) (found : kth_grant (listed el i (n - i)) sid left ≡ whole) where
  pub scan_end : n ≤ i → None ≡ whole
  unfolding kth_grant grants_to intervals kth_of
  scan_end h = rw (listed_none el n i h) at found

  module _ (more : i < n) (e : Element) (is : e ≡ el i) where
    pub scan_null : e.iuc ≡ 7 → None ≡ whole
    unfolding kth_grant grants_to intervals kth_of
    scan_null h = rw (listed_more el n i more, ← is, h) at found

    module _ (open' : e.iuc ≡ 7 → ⊥) (past : (el n).offset ≡ 0) (next : Element) (follows : next ≡ el (i + 1)) where
      interval : Interval
      interval = record { sid = e.sid; iuc = e.iuc; first = e.offset; length = next.offset - e.offset }

      step : kth_of (cond (grants_sid e sid) (interval ∷ grants_to sid (listed el (i + 1) (n - (i + 1)))) (grants_to sid (listed el (i + 1) (n - (i + 1))))) left ≡ whole
      unfolding kth_grant grants_to intervals interval
      step = rw (follows, ← listed_first el n (i + 1) (omega arith) past) (rw (listed_more el n i more, ← is, ne_eqb e.iuc 7 open') at found)

      pub scan_hit : (h : Bool) (r : ℕ) → h ≡ hits e sid left → h ≡ true → r ≡ next.offset - e.offset → Some (record { offset = e.offset; length = r }) ≡ whole
      unfolding interval kth_of hits
      scan_hit h r a b c = go (grants_sid e sid) refl (eqb left 0) refl
        where
          go : (g : Bool) → grants_sid e sid ≡ g → (z : Bool) → eqb left 0 ≡ z → Some (record { offset = e.offset; length = r }) ≡ whole
          go true p true q = rw (p, eqb-true left 0 q, ← c) at step
          go true p false q = absurd (let z : ◌≡◌ {A = ℕ} 0 1 = cc in omega arith)
          go false p z q = absurd (let z' : ◌≡◌ {A = ℕ} 0 1 = cc in omega arith)

      pub scan_next : (h : Bool) (l : ℕ) → h ≡ hits e sid left → h ≡ false → l ≡ passed_by e sid left → kth_grant (listed el (i + 1) (n - (i + 1))) sid l ≡ whole
      unfolding kth_grant kth_of hits passed_by
      scan_next h l a b c = go (grants_sid e sid) refl left refl
        where
          go : (g : Bool) → grants_sid e sid ≡ g → (k : ℕ) → left ≡ k → kth_of (grants_to sid (listed el (i + 1) (n - (i + 1)))) l ≡ whole
          go true p zero q =
              let y : h ≡ true = a ∙ rw (p, q) refl in
              absurd (let z : ◌≡◌ {A = ℕ} 0 1 = cc in omega arith)
          go true p (suc k) q = let y : l ≡ k = (rw (p, q) at c) ∙ omega arith in rw y (rw (p, q) at step)
          go false p k q = let y : l ≡ left = (rw p at c) in rw y (rw p at step)

module _ (e : Element) (sid left : ℕ) (g : Bool) (is : g ≡ grants_sid e sid) where
  pub passed_other : g ≡ false → left ≡ passed_by e sid left
  unfolding passed_by
  passed_other h = rw (sym is ∙ h) refl

  pub passed_grant : (r : ℕ) → g ≡ true → r ≡ left - 1 → r ≡ passed_by e sid left
  unfolding passed_by
  passed_grant r h k = rw (sym is ∙ h) k

pub scan_begins : (el : ℕ → Element) (n sid k i left : ℕ) → i ≡ 0 → left ≡ k → kth_grant (listed el i (n - i)) sid left ≡ kth_grant (listed el 0 n) sid k
scan_begins el n sid k i left a b = rw (a, b, sub-zero n) refl

pub ruleset scans = (scan_hit, scan_next, past_end)

pub granted_at_lem : (start : ℕ) (f : Option Found) (r : MiniSlot) (v : Found) → f ≡ Some v → r.0 ≡ moved_on 32 start v.offset → Some (record { first = r; length = v.length }) ≡ granted_at start f
granted_at_lem start f r v e h = rw (e, ← h) refl

module _ (s : List ℕ) (sid k : ℕ) where
  pub grant_refused : (why : Refusal) → read_of s ≡ Err why → Err why ≡ grant_of s sid k
  unfolding grant_of
  grant_refused why e = rw e refl

  pub grant_read : (r : Reading) (fs : Fields) (f : Option Found) (g : Option Granted) → read_of s ≡ Ok r → fs ≡ fields_of s → f ≡ kth_grant (listed (element_at s) 0 r.n) sid k → g ≡ granted_at fs.start.0 f → Ok g ≡ grant_of s sid k
  unfolding grant_of
  grant_read r fs f g e h a b = rw (e, (accepted s r e).elements, ← h, ← a, b) refl
