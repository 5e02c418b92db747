-- The requests held: a prefix is granted, the rest stays pending.
use mathlib.Core.Path.{◌≡◌, refl, sym, ◌∙◌, ap}
use mathlib.Core.Bool.{Bool, true, false, cond}
use mathlib.Core.List.{List, [], ◌∷◌, ◌++◌}
use Prim.Native.Nat.{ℕ, ◌+◌, ◌-◌, ◌≤◌}
use native.Mathlib.Omega.{arith}
use lib.Dec.{leb}
use lib.ListN.{length, take, drop, length-append}
use lib.Seq.{take_at, drop_at}
use borrow.Author.Tests.{leb-true}
use Rattle.headend.specs.declared.record.Request.{Request}
use Rattle.issuing.specs.Plan.{granted, pending, total}

pub granted_pending : (room : ℕ) (qs : List Request) → granted room qs ++ pending room qs ≡ qs
unfolding granted pending
granted_pending room [] = refl
granted_pending room (q ∷ qs) = go (leb q.size room) (granted_pending (room - q.size) qs)
  where
    go : (b : Bool) → granted (room - q.size) qs ++ pending (room - q.size) qs ≡ qs → cond b (q ∷ granted (room - q.size) qs) [] ++ cond b (pending (room - q.size) qs) (q ∷ qs) ≡ q ∷ qs
    go true e = ap (λ (l : List Request). q ∷ l) e
    go false e = refl

pub total_granted : (room : ℕ) (qs : List Request) → total (granted room qs) ≤ room
unfolding granted total
total_granted room [] = omega arith
total_granted room (q ∷ qs) = go (leb q.size room) refl (total_granted (room - q.size) qs)
  where
    go : (b : Bool) → leb q.size room ≡ b → total (granted (room - q.size) qs) ≤ room - q.size → total (granted room (q ∷ qs)) ≤ room
    go true p e = rw p (omega (arith, leb-true q.size room p))
    go false p e = rw p (omega arith)

pub length_granted : (room : ℕ) (qs : List Request) → length (granted room qs) + length (pending room qs) ≡ length qs
length_granted room qs = sym (length-append (granted room qs) (pending room qs)) ∙ ap length (granted_pending room qs)

-- the same by their count
pub granted_first : (room : ℕ) (qs : List Request) → granted room qs ≡ take (length (granted room qs)) qs
granted_first room qs = sym (ap (λ (l : List Request). take (length (granted room qs)) l) (sym (granted_pending room qs)) ∙ take_at (granted room qs) (pending room qs) _ refl)

pub pending_after : (room : ℕ) (qs : List Request) → pending room qs ≡ drop (length (granted room qs)) qs
pending_after room qs = sym (ap (λ (l : List Request). drop (length (granted room qs)) l) (sym (granted_pending room qs)) ∙ drop_at (granted room qs) (pending room qs) _ refl)
