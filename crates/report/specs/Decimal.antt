-- Numbers in decimal, by the kit's definition of digits.
use Rattle.std.specs.Prelude.{ℕ, zero, suc, ◌/◌, cond, List, ltb}
use Rattle.io.specs.Digits.{last_digits}

-- how many digits n has, where k bounds how often it can be divided by 10
unfoldable pub places_from : ℕ → ℕ → ℕ
places_from zero n = 1
places_from (suc k) n = cond (ltb n 10) 1 (suc (places_from k (n / 10)))

abbrev pub places_of : ℕ → ℕ
places_of n = places_from n n

-- all the digits of n, the most significant first, and no zero in front
unfoldable pub decimal_of : ℕ → List ℕ
decimal_of n = last_digits 10 (places_of n) n
