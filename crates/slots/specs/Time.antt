-- Document 01, "Time". A count of w bits rolls over; mini-slot times and timestamps have 32.
use Rattle.std.specs.Prelude.{ℕ, ◌+◌, ◌-◌, ◌%◌, ◌^◌, Bool, ◌&&◌, nat_le, nat_lt}

-- how far b lies ahead of a, counting forward mod 2^w
unfoldable pub ahead : ℕ → ℕ → ℕ → ℕ
ahead w a b = (b + (2 ^ w - a % 2 ^ w)) % 2 ^ w

-- half of the clock
abbrev pub half : ℕ → ℕ
half w = 2 ^ (w - 1)

-- "Time a is earlier than b exactly when (b - a) mod 2^w is from 1 to 2^(w-1) - 1"
unfoldable pub earlier : ℕ → ℕ → ℕ → Bool
earlier w a b = nat_le 1 (ahead w a b) && nat_lt (ahead w a b) (half w)

-- moved on by n
abbrev pub moved_on : ℕ → ℕ → ℕ → ℕ
moved_on w a n = (a + n) % 2 ^ w
