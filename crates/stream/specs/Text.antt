-- Text put together in lent bytes before it is written.
use Rattle.std.specs.Prelude.{◌≡◌, ℕ, zero, suc, ◌+◌, ◌^◌, Bool, cond, List, ◌++◌, leb, ltb, length, take, drop}
use Rattle.io.specs.Digits.{last_digits}
use Rattle.stream.specs.declared.text.Text.{Text}

-- whether a text has room behind the used bytes
abbrev pub fits : ℕ → List ℕ → List ℕ → Bool
fits used text o = leb (used + length text) (length o)

-- the lent bytes with the text behind the used ones; one that has no room leaves them as they were
unfoldable pub bytes_with : ℕ → List ℕ → List ℕ → List ℕ
bytes_with used text o = cond (fits used text o) (take used o ++ (text ++ drop (used + length text) o)) o

-- more than any lent bytes: what is used once a text had no room, and stays so
abbrev pub too_many : ℕ
too_many = 18446744073709551615

unfoldable pub used_with : ℕ → List ℕ → List ℕ → ℕ
used_with used text o = cond (fits used text o) (used + length text) too_many

-- a text put into the same lent bytes
abbrev pub Puts : Text → List ℕ → Text → Type 0
Puts before text after =
    (after.bytes.now ≡ bytes_with before.used text before.bytes.now)
    × (after.used ≡ used_with before.used text before.bytes.now)
    × (after.bytes.ghost_name ≡ before.bytes.ghost_name)

-- the first number of digits from k on that hold n; so many more than k are tried at most
unfoldable pub places_from : ℕ → ℕ → ℕ → ℕ → ℕ
places_from zero base k n = k
places_from (suc more) base k n = cond (ltb n (base ^ k)) k (places_from more base (k + 1) n)

-- a number below 2^64 has at most 20 digits in decimal
unfoldable pub decimal_of : ℕ → List ℕ
decimal_of n = last_digits 10 (places_from 19 10 1 n) n

-- a byte in two digits
abbrev pub hex_of : ℕ → List ℕ
hex_of byte = last_digits 16 2 byte
