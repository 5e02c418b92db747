-- Document 01, "The message": an element of 4 bytes.
use Rattle.std.specs.Prelude.{ℕ, ◌+◌, ◌*◌, ◌/◌, ◌%◌, ◌^◌, cond, List, leb, length, get_or}
use Rattle.rules.specs.declared.element.Element.{Element}

-- "Most significant byte first"
unfoldable pub word_at : List ℕ → ℕ → ℕ
word_at s at = get_or s at 0 * 2 ^ 24 + get_or s (at + 1) 0 * 2 ^ 16 + get_or s (at + 2) 0 * 2 ^ 8 + get_or s (at + 3) 0

-- "SID 14 bits, use (IUC) 4 bits, offset 14 bits"
abbrev pub element_of : ℕ → Element
element_of word = record { sid = word / 2 ^ 18; iuc = word / 2 ^ 14 % 2 ^ 4; offset = word % 2 ^ 14 }

-- the elements follow the 16 bytes of the header
abbrev pub element_in : List ℕ → ℕ → Element
element_in s i = element_of (word_at s (16 + 4 * i))

-- .. the i-th, or all zero where the bytes end before it
unfoldable pub element_at : List ℕ → ℕ → Element
element_at s i = cond (leb (20 + 4 * i) (length s)) (element_in s i) (record { sid = 0; iuc = 0; offset = 0 })
