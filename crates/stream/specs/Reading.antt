-- What a contract can say of a read: the count lies within the lent bytes; where the reader's bytes are known, the ones that came are
-- its next; and where nothing failed nothing was said.
use Rattle.std.specs.Prelude.{◌≡◌, ℕ, ◌<◌, List, length, take, Option, Result, Ok, Err}
use Rattle.std.specs.Io.KnownBytes.{Keeps, Consumes, IsAtEnd}
use Rattle.io.specs.Counts.{IsPrefixLen}
use Rattle.stream.specs.declared.telling.Failed.{Failed}

abbrev pub Inside : Result ℕ Failed → List ℕ → Type 0
Inside (Ok n) xs = IsPrefixLen n xs
Inside (Err failed) xs = Unit {0}

-- one read: no byte only where the input has ended or nothing was lent, and none lost by one that failed
abbrev pub Came : Option (List ℕ) → Option (List ℕ) → Result ℕ Failed → List ℕ → Type 0
Came before after (Ok n) xs = Consumes before after (take n xs) × (n ≡ 0 → 0 < length xs → IsAtEnd after)
Came before after (Err failed) xs = Keeps before after

-- all of it: fewer than were lent only where the input has ended
abbrev pub CameWhole : Option (List ℕ) → Option (List ℕ) → Result ℕ Failed → List ℕ → Type 0
CameWhole before after (Ok n) xs = Consumes before after (take n xs) × (n < length xs → IsAtEnd after)
CameWhole before after (Err failed) xs = Unit {0}

-- what is said on standard error: nothing, where nothing failed
abbrev pub Quiet : {E : Type 0} → Result ℕ Failed → E → E → Type 0
Quiet (Ok n) before after = after ≡ before
Quiet (Err failed) before after = Unit {0}
