-- Document 01, "The message": the SIDs allowed by use (house rule).
use Rattle.std.specs.Prelude.{ℕ, Bool, cond, ◌&&◌, ◌||◌, leb, eqb}

abbrev pub within : ℕ → ℕ → ℕ → Bool
within low high x = leb low x && leb x high

-- "Unicast means 0x0001..0x1FFF"
abbrev pub unicast : ℕ → Bool
unicast sid = within 0x0001 0x1FFF sid

-- | Use | Meaning | SIDs allowed |
unfoldable pub sid_allowed : ℕ → ℕ → Bool
sid_allowed iuc sid =
    -- Request
    cond (eqb iuc 1) (within 0x0001 0x3DFF sid || within 0x3E01 0x3EFF sid || eqb sid 0x3FFF)
    -- Request/Data
    (cond (eqb iuc 2) (within 0x2000 0x3DFF sid || within 0x3FF1 0x3FFE sid)
    -- Initial maintenance
    (cond (eqb iuc 3) (within 0x2000 0x3DFF sid || eqb sid 0x3FFF)
    -- Null, closes the intervals
    (cond (eqb iuc 7) (eqb sid 0)
    -- Station maintenance, short grant, long grant; Data Acknowledge
    (unicast sid))))
