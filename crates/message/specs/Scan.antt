-- How the code goes through a message, for what private functions promise: no public promise cites these.
use Rattle.std.specs.Prelude.{ℕ, ◌-◌, Bool, cond, ◌&&◌, eqb, Result, Ok, Err}
use Rattle.rules.specs.declared.element.Element.{Element}
use Rattle.rules.specs.declared.refusal.Refusal.{Refusal}
use Rattle.message.specs.declared.reading.Reading.{Reading}
use Rattle.message.specs.declared.reading.Checked.{Checked}
use Rattle.rules.specs.Rules.{grants_sid}

-- what a reading says beyond the header's fields
abbrev pub checked_by : Result Reading Refusal → Result Checked Refusal
checked_by (Ok r) = Ok (record { n = r.n; whole = record { null = r.null; length = r.length } })
checked_by (Err why) = Err why

-- an element is the grant sought, with none left to pass
unfoldable pub hits : Element → ℕ → ℕ → Bool
hits e sid left = grants_sid e sid && eqb left 0

unfoldable pub passed_by : Element → ℕ → ℕ → ℕ
passed_by e sid left = cond (grants_sid e sid) (left - 1) left
