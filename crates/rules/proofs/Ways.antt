-- The ways through the functions of the rules: one law each, about the definitions only.
use mathlib.Core.Path.{◌≡◌, refl}
use mathlib.Core.Bool.{Bool, true, false, cond, not, ◌&&◌, ◌||◌}
use Prim.Native.Nat.{ℕ}
use native.Mathlib.Omega.{arith}
use lib.Dec.{leb, eqb}
use borrow.Author.Tests.{ne_eqb, not-true}
pub use Rattle.slots.proofs.Spans.{said, said_not}
use Rattle.rules.specs.declared.element.Element.{Element}
use Rattle.rules.specs.declared.rules.Progress.{Progress}
use Rattle.std.specs.Prelude.{Result, Ok, Err}
use Rattle.rules.specs.declared.refusal.Reason.{Reason}
use Rattle.rules.specs.declared.refusal.Reason.TheVariants.{Use, Null, Sid, Place, Span, Grant}
use Rattle.rules.specs.Refusals.{then}
use Rattle.rules.specs.Sids.{within, sid_allowed}
use Rattle.rules.specs.Rules.{granting, unknown_use, misordered, wrong_sid, misplaced, too_far, grant_too_long, standing_fault, fault_of, advanced, ended_at}

module _ (sid : ℕ) where
  pub sid_1 : (iuc : ℕ) (a b : Bool) → iuc ≡ 1 → a ≡ within 0x0001 0x3DFF sid → b ≡ within 0x3E01 0x3EFF sid → (a || b || eqb sid 0x3FFF) ≡ sid_allowed iuc sid
  unfolding sid_allowed
  sid_1 iuc a b e p q = rw (e, p, q) refl

  pub sid_2 : (iuc : ℕ) (a b : Bool) → iuc ≡ 2 → a ≡ within 0x2000 0x3DFF sid → b ≡ within 0x3FF1 0x3FFE sid → (a || b) ≡ sid_allowed iuc sid
  unfolding sid_allowed
  sid_2 iuc a b e p q = rw (e, p, q) refl

  pub sid_3 : (iuc : ℕ) (a : Bool) → iuc ≡ 3 → a ≡ within 0x2000 0x3DFF sid → (a || eqb sid 0x3FFF) ≡ sid_allowed iuc sid
  unfolding sid_allowed
  sid_3 iuc a e p = rw (e, p) refl

  pub sid_7 : (iuc : ℕ) → iuc ≡ 7 → eqb sid 0 ≡ sid_allowed iuc sid
  unfolding sid_allowed
  sid_7 iuc e = rw e refl

  pub sid_other : (iuc : ℕ) (a : Bool) → (iuc ≡ 1 → ⊥) → (iuc ≡ 2 → ⊥) → (iuc ≡ 3 → ⊥) → (iuc ≡ 7 → ⊥) → a ≡ within 0x0001 0x1FFF sid → a ≡ sid_allowed iuc sid
  unfolding sid_allowed
  sid_other iuc a h j k l p = simp (ne_eqb iuc 1 h, ne_eqb iuc 2 j, ne_eqb iuc 3 k, ne_eqb iuc 7 l) p

module _ (p : Progress) (e : Element) where
  pub ordered_after : (g : Bool) → p.closed ≡ true → g ≡ granting e.iuc → not (g || eqb e.iuc 8) ≡ misordered p e
  unfolding misordered
  ordered_after g h k = rw (h, k) refl

  pub ordered_before : p.closed ≡ false → (eqb e.iuc 8 || (p.first && eqb e.iuc 7)) ≡ misordered p e
  unfolding misordered
  ordered_before h = rw h refl

  pub placed_after : p.closed ≡ true → not (eqb e.offset p.offset) ≡ misplaced p e
  unfolding misplaced
  placed_after h = rw h refl

  pub placed_first : p.closed ≡ false → p.first ≡ true → not (eqb e.offset 0) ≡ misplaced p e
  unfolding misplaced
  placed_first h k = rw (h, k) refl

  pub placed_before : p.closed ≡ false → p.first ≡ false → leb e.offset p.offset ≡ misplaced p e
  unfolding misplaced
  placed_before h k = rw (h, k) refl

  pub standing_5 : unknown_use e ≡ true → Err Use ≡ standing_fault p e
  unfolding standing_fault
  standing_5 a = simp a

  pub standing_10 : unknown_use e ≡ false → misordered p e ≡ true → Err Null ≡ standing_fault p e
  unfolding standing_fault
  standing_10 a b = simp (a, b)

  module _ (a : unknown_use e ≡ false) (b : misordered p e ≡ false) where
    pub standing_6 : wrong_sid e ≡ true → Err Sid ≡ standing_fault p e
    unfolding standing_fault
    standing_6 c = simp (a, b, c)

    pub standing_7 : wrong_sid e ≡ false → misplaced p e ≡ true → Err Place ≡ standing_fault p e
    unfolding standing_fault
    standing_7 c d = simp (a, b, c, d)

    pub standing_none : wrong_sid e ≡ false → misplaced p e ≡ false → Ok tt ≡ standing_fault p e
    unfolding standing_fault
    standing_none c d = simp (a, b, c, d)

  -- what follows 5, 10, 6, 7 in the paper's order
  pub fault_after : fault_of p e ≡ then (standing_fault p e) (cond (too_far p e) (Err Span) (cond (grant_too_long p e) (Err Grant) (Ok tt)))
  unfolding fault_of standing_fault
  fault_after = go (unknown_use e) (misordered p e) (wrong_sid e) (misplaced p e) (cond (too_far p e) (Err Span) (cond (grant_too_long p e) (Err Grant) (Ok tt)))
    where
      go : (a b c d : Bool) (x : Result Unit Reason) → cond a (Err Use) (cond b (Err Null) (cond c (Err Sid) (cond d (Err Place) x))) ≡ then (cond a (Err Use) (cond b (Err Null) (cond c (Err Sid) (cond d (Err Place) (Ok tt))))) x
      go true b c d x = refl
      go false true c d x = refl
      go false false true d x = refl
      go false false false true x = refl
      go false false false false x = refl

  module _ (f : Result Unit Reason) (is : f ≡ standing_fault p e) where
    pub fault_standing : (why : Reason) → f ≡ Err why → Err why ≡ fault_of p e
    fault_standing why h = rw (fault_after, ← is, h) refl

    module _ (u : Unit) (h : f ≡ Ok u) where
      pub fault_8 : too_far p e ≡ true → Err Span ≡ fault_of p e
      fault_8 a = rw (fault_after, ← is, h, a) refl

      pub fault_9 : too_far p e ≡ false → grant_too_long p e ≡ true → Err Grant ≡ fault_of p e
      fault_9 a b = rw (fault_after, ← is, h, a, b) refl

      pub fault_none : too_far p e ≡ false → grant_too_long p e ≡ false → Ok tt ≡ fault_of p e
      fault_none a b = rw (fault_after, ← is, h, a, b) refl

    -- after the Null there is no other fault
    pub fault_closed : p.closed ≡ true → p.granting ≡ false → f ≡ fault_of p e
    fault_closed c g = rw (fault_after, ← is, c, g) (go f)
      where
        go : (n : Result Unit Reason) → n ≡ then n (Ok tt)
        go (Ok u) = refl
        go (Err why) = refl

  pub no_fault : unknown_use e ≡ false → misordered p e ≡ false → wrong_sid e ≡ false → misplaced p e ≡ false → too_far p e ≡ false → grant_too_long p e ≡ false → Ok tt ≡ fault_of p e
  no_fault a b c d = fault_none (Ok tt) (standing_none a b c d) tt refl

  module _ (i : ℕ) where
    pub advanced_after : p.closed ≡ true → p ≡ advanced p e i
    unfolding advanced
    advanced_after h = rw h refl

    pub advanced_null : p.closed ≡ false → e.iuc ≡ 7 → record { first = false; closed = true; null = i; offset = e.offset; granting = false } ≡ advanced p e i
    unfolding advanced
    advanced_null h k = rw (h, k) refl

    -- the Null ends a grant, too
    pub advanced_closed : (q : Progress) → p.closed ≡ false → q ≡ advanced p e i → q.closed ≡ true → q.granting ≡ false
    unfolding advanced
    advanced_closed q h a c = go (eqb e.iuc 7) refl
      where
        go : (t : Bool) → eqb e.iuc 7 ≡ t → q.granting ≡ false
        go true k = rw (a, h, k) refl
        go false k =
            let open' : q.closed ≡ false = rw (a, h, k) refl in
            absurd (let z : ◌≡◌ {A = ℕ} 0 1 = cc in omega arith)

    pub advanced_before : (g : Bool) → p.closed ≡ false → (e.iuc ≡ 7 → ⊥) → g ≡ granting e.iuc → record { first = false; closed = false; null = 0; offset = e.offset; granting = g } ≡ advanced p e i
    unfolding advanced
    advanced_before g h k f = rw (h, ne_eqb e.iuc 7 k, f) refl

module _ (n : ℕ) (p : Progress) where
  pub ended_whole : p.closed ≡ true → Ok (record { null = p.null; length = p.offset }) ≡ ended_at n p
  unfolding ended_at
  ended_whole h = rw h refl

  pub ended_open : p.closed ≡ false → Err (record { reason = Null; element = n }) ≡ ended_at n p
  unfolding ended_at
  ended_open h = rw h refl

pub ruleset ways = (said, said_not, not-true, sid_1, sid_2, sid_3, sid_7, sid_other, ordered_after, ordered_before, placed_after, placed_first, placed_before, standing_5, standing_10, standing_6, standing_7, standing_none, fault_standing, fault_8, fault_9, fault_none, advanced_after, advanced_null, advanced_before, ended_whole, ended_open)
