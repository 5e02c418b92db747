-- For each text, each number and each content of the lent bytes and of `used` a contract leaves one content of both.
use Rattle.std.specs.Prelude.{Option, None, Some, Ok}
use Rattle.std.specs.Io.KnownBytes.{Appends, Consumes}
use mathlib.Core.Path.{◌≡◌, sym, ◌∙◌, ap}
use mathlib.Core.List.{List}
use Prim.Native.Nat.{ℕ}
use lib.ListN.{take, drop}
use lib.Seq.{take_at, drop_at}
use contract.Lifetimes
use borrow.Fn.World
use borrow.Fn.Kinds as Kinds'
use denote.Triple.Clauses
use Rattle.stream.specs.Reading.{Inside}
use Rattle.stream.specs.contracts.text.Text.new as new'
use Rattle.stream.proofs.text.Text.new.Reads as new
use Rattle.stream.proofs.text.Text.new.Kinds as new_kinds
use Rattle.stream.specs.contracts.text.Text.put as put'
use Rattle.stream.proofs.text.Text.put.Reads as put
use Rattle.stream.proofs.text.Text.put.Kinds as put_kinds
use Rattle.stream.specs.contracts.text.Text.put_decimal as put-decimal'
use Rattle.stream.proofs.text.Text.put_decimal.Reads as put-decimal
use Rattle.stream.proofs.text.Text.put_decimal.Kinds as put_decimal_kinds
use Rattle.stream.specs.contracts.text.Text.put_hex as put-hex'
use Rattle.stream.proofs.text.Text.put_hex.Reads as put-hex
use Rattle.stream.proofs.text.Text.put_hex.Kinds as put_hex_kinds

pub new_unique : (κs : Lifetimes.Lfts 1) (a : World.ArgsD new'.signature κs) (r r' : World.ResD new'.signature κs) (s s' : Clauses.AtExit (Kinds'.ended_of 1 new_kinds.ps new_kinds.r) κs) → new.Post κs a r s → new.Post κs a r' s' → (r.bytes.now ≡ r'.bytes.now) × (r.used ≡ r'.used)
new_unique κs a r r' s s' p q = (p.0 ∙ sym q.0, p.1.0 ∙ sym q.1.0)

pub put_unique : (κs : Lifetimes.Lfts 3) (a : World.ArgsD put'.signature κs) (r r' : World.ResD put'.signature κs) (s s' : Clauses.AtExit (Kinds'.ended_of 3 put_kinds.ps put_kinds.r) κs) → put.Post κs a r s → put.Post κs a r' s' → (s.0.now.bytes.now ≡ s'.0.now.bytes.now) × (s.0.now.used ≡ s'.0.now.used)
put_unique κs a r r' s s' p q = (p.0 ∙ sym q.0, p.1 ∙ sym q.1)

pub put_decimal_unique : (κs : Lifetimes.Lfts 2) (a : World.ArgsD put-decimal'.signature κs) (r r' : World.ResD put-decimal'.signature κs) (s s' : Clauses.AtExit (Kinds'.ended_of 2 put_decimal_kinds.ps put_decimal_kinds.r) κs) → put-decimal.Post κs a r s → put-decimal.Post κs a r' s' → (s.0.now.bytes.now ≡ s'.0.now.bytes.now) × (s.0.now.used ≡ s'.0.now.used)
put_decimal_unique κs a r r' s s' p q = (p.0 ∙ sym q.0, p.1 ∙ sym q.1)

pub put_hex_unique : (κs : Lifetimes.Lfts 2) (a : World.ArgsD put-hex'.signature κs) (r r' : World.ResD put-hex'.signature κs) (s s' : Clauses.AtExit (Kinds'.ended_of 2 put_hex_kinds.ps put_hex_kinds.r) κs) → put-hex.Post κs a r s → put-hex.Post κs a r' s' → (s.0.now.bytes.now ≡ s'.0.now.bytes.now) × (s.0.now.used ≡ s'.0.now.used)
put_hex_unique κs a r r' s s' p q = (p.0 ∙ sym q.0, p.1 ∙ sym q.1)

-- That a read or a write fails, and how many bytes one read brings, no contract can say. The rest has one answer. Of the same known bytes, as
-- many bytes are the same ones, and leave the same ones.
pub came_alike : (s : List ℕ) (n : ℕ) (left left' : Option (List ℕ)) (xs xs' : List ℕ) → Inside (Ok n) xs → Inside (Ok n) xs' → Consumes (Some s) left (take n xs) → Consumes (Some s) left' (take n xs') → (take n xs ≡ take n xs') × (left ≡ left')
came_alike s n None left' xs xs' h k p q = absurd p
came_alike s n (Some l) None xs xs' h k p q = absurd q
came_alike s n (Some l) (Some l') xs xs' h k p q =
    let front : take n s ≡ take n xs = ap (λ (z : List ℕ). take n z) p ∙ take_at (take n xs) l n (sym h.1) in
    let front' : take n s ≡ take n xs' = ap (λ (z : List ℕ). take n z) q ∙ take_at (take n xs') l' n (sym k.1) in
    let rest : drop n s ≡ l = ap (λ (z : List ℕ). drop n z) p ∙ drop_at (take n xs) l n (sym h.1) in
    let rest' : drop n s ≡ l' = ap (λ (z : List ℕ). drop n z) q ∙ drop_at (take n xs') l' n (sym k.1) in
    (sym front ∙ front', ap (λ (z : List ℕ). Some z) (sym rest ∙ rest'))

-- .. and a text told leaves one content of a writer whose content is known
pub told_alike : (s text : List ℕ) (now now' : Option (List ℕ)) → Appends (Some s) now text → Appends (Some s) now' text → now ≡ now'
told_alike s text None now' p q = absurd p
told_alike s text (Some w) None p q = absurd q
told_alike s text (Some w) (Some w') p q = ap (λ (z : List ℕ). Some z) (p ∙ sym q)
