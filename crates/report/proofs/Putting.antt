-- The pieces of a line.
use mathlib.Core.Path.{◌≡◌, ◌∙◌}
use mathlib.Core.List.{List, [], ◌∷◌, ◌++◌}
use Prim.Native.Nat.{ℕ, ◌+◌, ◌≤◌, ◌<◌}
use native.Mathlib.Numerals.{add-one}
use lib.ListN.{length, take, drop, get_or, drop_of_length-le}
use lib.Seq.{drop-cons}
use Rattle.io.specs.Digits.{last_digits, IsDigitCount}
use Rattle.report.specs.declared.lines.Lines.{Lines}
use Rattle.report.specs.Decimal.{decimal_of}
use Rattle.report.specs.Text.{field_of, fields_of, line_of}
use Rattle.report.specs.Scan.{HasRoom, Put}
use Rattle.report.proofs.Decimals.{decimal_made}
use Rattle.report.proofs.Filling.{Filling, fill_room, fill_put, fill_end, room_first, room_left, put_then}

-- a space, then the digits that the kit made
module _ (n : ℕ) (l m : Lines) (room : HasRoom l (field_of n)) (k : ℕ) (d : List ℕ) (few : IsDigitCount 10 1 n k) (made : take k d ≡ last_digits 10 k n) (p : Put (32 ∷ []) l m) where
  digits : take k d ≡ decimal_of n
  digits = made ∙ decimal_made n k few

  pub field_room : HasRoom m (take k d)
  field_room = rw digits (room_left (32 ∷ []) (decimal_of n) l m room p)

  pub field_done : (after : Lines) → Put (take k d) m after → Put (field_of n) l after
  field_done after q = put_then (32 ∷ []) (decimal_of n) l m room p after (rw digits at q)

-- number by number
module _ (whole ns : List ℕ) (before now : Lines) (i : ℕ) (more : i < length ns) (f : Filling whole (fields_of (drop i ns)) before now) where
  next : Filling whole (field_of (get_or ns i 0) ++ fields_of (drop (i + 1) ns)) before now
  unfolding fields_of
  next = let g = rw (drop-cons ns i 0 more) at f in rw (add-one i) g

  pub fields_room : HasRoom now (field_of (get_or ns i 0))
  fields_room = fill_room whole (field_of (get_or ns i 0)) (fields_of (drop (i + 1) ns)) before now next

  pub fields_next : (after : Lines) → Put (field_of (get_or ns i 0)) now after → Filling whole (fields_of (drop (i + 1) ns)) before after
  fields_next after p = fill_put whole (field_of (get_or ns i 0)) (fields_of (drop (i + 1) ns)) before now next after p

pub fields_end : (ns : List ℕ) (before now : Lines) (i : ℕ) → length ns ≤ i → Filling (fields_of ns) (fields_of (drop i ns)) before now → Put (fields_of ns) before now
unfolding fields_of
fields_end ns before now i h f = fill_end (fields_of ns) before now (rw (drop_of_length-le ns h) at f)

-- the word, its numbers, the newline
module _ (word ns : List ℕ) (l : Lines) (room : HasRoom l (line_of word ns)) where
  pub word_room : HasRoom l word
  unfolding line_of
  word_room = room_first word (fields_of ns ++ (10 ∷ [])) l room

  module _ (m : Lines) (p : Put word l m) where
    behind : HasRoom m (fields_of ns ++ (10 ∷ []))
    unfolding line_of
    behind = room_left word (fields_of ns ++ (10 ∷ [])) l m room p

    pub numbers_room : HasRoom m (fields_of ns)
    numbers_room = room_first (fields_of ns) (10 ∷ []) m behind

    module _ (n : Lines) (q : Put (fields_of ns) m n) where
      pub newline_room : HasRoom n (10 ∷ [])
      newline_room = room_left (fields_of ns) (10 ∷ []) m n behind q

      pub line_done : (after : Lines) → Put (10 ∷ []) n after → Put (line_of word ns) l after
      unfolding line_of
      line_done after r = put_then word (fields_of ns ++ (10 ∷ [])) l m room p after (put_then (fields_of ns) (10 ∷ []) m n behind q after r)
