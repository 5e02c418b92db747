-- Document 01, "Time": the conversion.
use Rattle.std.specs.Prelude.{ℕ, ◌*◌, ◌%◌, ◌^◌, Bool, cond, ◌&&◌, nat_le, Option, Some, None}
use Rattle.slots.specs.declared.time.Timestamp.{Timestamp}

-- "M 1 to 7"
abbrev pub size_allowed : ℕ → Bool
size_allowed m = nat_le 1 m && nat_le m 7

-- "Mini-slot N begins at timestamp N × T × 64 mod 2^32, T = 2^M .. refuses another M"
unfoldable pub begins_at : ℕ → ℕ → Option Timestamp
begins_at n m = cond (size_allowed m) (Some (record { 0 = n * 2 ^ m * 64 % 2 ^ 32 })) None

-- the paper's refusal number for a case, 0 where there is none
abbrev pub number_of : Option Timestamp → ℕ
number_of (Some t) = 0
number_of None = 17

-- "refuses another M (17)"
unfoldable pub size_fault : ℕ → ℕ
size_fault m = cond (size_allowed m) 0 17
