-- What a caller learns of a count that came with an answer, and of reads that follow one another.
use Rattle.std.specs.Prelude.{Option, Result, Ok}
use mathlib.Core.Path.{◌≡◌, sym, ap, ◌∙◌}
use mathlib.Core.List.{List, ◌++◌}
use Prim.Native.Nat.{ℕ, ◌≤◌, ◌+◌}
use lib.ListN.{length, take}
use lib.Seq.{length-take-le, take-append-add, take-append-le}
use borrow.Rule.Slice.PartMut.{put_mid, post_of}
use Rattle.std.specs.Io.KnownBytes.{Consumes}
use Rattle.std.proofs.KnownBytes.{Consumes-trans}
use Rattle.io.specs.Counts.{IsPrefixLen}
use Rattle.stream.specs.declared.telling.Failed.{Failed}
use Rattle.stream.specs.Reading.{Inside}

pub counted : (r : Result ℕ Failed) (n : ℕ) (xs : List ℕ) → Inside r xs → r ≡ Ok n → IsPrefixLen n xs
counted r n xs p e = rw e at p

pub counts : (n : ℕ) (xs : List ℕ) → n ≤ length xs → IsPrefixLen n xs
counts n xs h = (h, sym (length-take-le n xs h))

module _ (at n k : ℕ) (xs part : List ℕ) (h : at ≤ length xs) (l : n ≤ length part) where
  -- what came into the part behind the bytes that were there stands behind them
  front_more : take (at + n) (put_mid at k xs part) ≡ take at xs ++ take n part
  front_more =
      let rest = post_of at k xs in
      let e : length (take at xs) ≡ at = length-take-le at xs h in
      let s : take (length (take at xs) + n) (take at xs ++ (part ++ rest)) ≡ take at xs ++ take n (part ++ rest) = take-append-add (take at xs) (part ++ rest) n in
      ap (λ (i : ℕ). take (i + n) (take at xs ++ (part ++ rest))) (sym e) ∙ s ∙ ap (λ (l : List ℕ). take at xs ++ l) (take-append-le n part rest l)

  pub came_more : (before now after : Option (List ℕ)) → Consumes before now (take at xs) → Consumes now after (take n part) → Consumes before after (take (at + n) (put_mid at k xs part))
  came_more before now after p q = rw front_more (Consumes-trans before now after _ _ p q)
