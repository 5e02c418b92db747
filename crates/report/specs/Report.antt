-- Document 01, "The report": all of it, and where it goes.
use Rattle.std.specs.Prelude.{ℕ, ◌+◌, ◌*◌, ◌/◌, min, cond, List, [], ◌∷◌, ltb, length, Result, Ok, Err}
use Rattle.rules.specs.declared.refusal.Reason.TheVariants.{Room}
use Rattle.rules.specs.Refusals.{refusal}
use Rattle.rules.specs.declared.refusal.Refusal.{Refusal}
use Rattle.report.specs.Text.{text_of, onto}

-- refused input, and a newline
abbrev pub refused_input : List ℕ
refused_input = 114 ∷ 101 ∷ 102 ∷ 117 ∷ 115 ∷ 101 ∷ 100 ∷ 32 ∷ 105 ∷ 110 ∷ 112 ∷ 117 ∷ 116 ∷ 10 ∷ []

-- "at most 65,536 bytes"; "Over-long input prints only `refused input`"
unfoldable pub report_of : List ℕ → List ℕ
report_of s = cond (ltb 65536 (length s)) refused_input (text_of s)

-- lent bytes that are enough for the report of any n bytes
abbrev pub enough : ℕ → ℕ
enough n = 43 + 35 * (min 65536 n / 24)

-- 11: "lent bytes too few"
unfoldable pub reported_of : List ℕ → ℕ → Result ℕ Refusal
reported_of s room = cond (ltb room (enough (length s))) (Err (refusal Room 0)) (Ok (length (report_of s)))

-- "A refusal .. changes .. no lent byte"
unfoldable pub report_into : List ℕ → List ℕ → List ℕ
report_into s o = cond (ltb (length o) (enough (length s))) o (onto (report_of s) o)
