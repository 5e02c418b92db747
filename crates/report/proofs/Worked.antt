-- Document 01's example, computed with the definitions that the contract cites.
use mathlib.Core.Path.{◌≡◌, refl}
use mathlib.Core.List.{List, [], ◌∷◌, ◌++◌}
use Prim.Native.Nat.{ℕ}
use Rattle.slots.specs.Time.{ahead}
use Rattle.slots.specs.Span.{within, qualifies, further, furthest, span_from, span_of}
use Rattle.message.specs.Lists.{listed}
use Rattle.rules.specs.Sids.{sid_allowed}
use Rattle.message.specs.Element.{word_at}
use Rattle.rules.specs.Backoffs.{bad_backoffs}
use Rattle.message.specs.Fields.{fields_of}
use Rattle.rules.specs.Rules.{misordered, misplaced, fault_of, advanced, ended_at, walked}
use Rattle.message.specs.Reading.{header_fault, read_of}
use Rattle.report.specs.Bodies.{next_of, bodies_from, maps_in}
use Rattle.report.specs.Decimal.{places_from, decimal_of}
use Rattle.report.specs.Text.{fields_of as fields, line_of, lines_from, text_of}
use Rattle.report.specs.Report.{report_of}

input : List ℕ
input =
    (0x01 ∷ 0x02 ∷ 0x03 ∷ 0x00 ∷ 0x00 ∷ 0x00 ∷ 0x03 ∷ 0xE8 ∷ 0x00 ∷ 0x00 ∷ 0x03 ∷ 0xD4 ∷ 0x00 ∷ 0x04 ∷ 0x02 ∷ 0x06 ∷ 0xFF ∷ 0xFC ∷ 0x40 ∷ 0x00 ∷ 0x00 ∷ 0x15 ∷ 0x80 ∷ 0x06 ∷ 0x00 ∷ 0x01 ∷ 0xC0 ∷ 0x1E ∷ [])
    ++ (0x01 ∷ 0x02 ∷ 0x02 ∷ 0x00 ∷ 0x00 ∷ 0x00 ∷ 0x03 ∷ 0xCA ∷ 0x00 ∷ 0x00 ∷ 0x03 ∷ 0xC0 ∷ 0x00 ∷ 0x04 ∷ 0x02 ∷ 0x06 ∷ 0xFF ∷ 0xFC ∷ 0x40 ∷ 0x00 ∷ 0x00 ∷ 0x01 ∷ 0xC0 ∷ 0x1E ∷ [])

output : List ℕ
output =
    -- map 0 1000 1030 3
    (109 ∷ 97 ∷ 112 ∷ 32 ∷ 48 ∷ 32 ∷ 49 ∷ 48 ∷ 48 ∷ 48 ∷ 32 ∷ 49 ∷ 48 ∷ 51 ∷ 48 ∷ 32 ∷ 51 ∷ 10 ∷ [])
    -- map 1 970 1000 2
    ++ (109 ∷ 97 ∷ 112 ∷ 32 ∷ 49 ∷ 32 ∷ 57 ∷ 55 ∷ 48 ∷ 32 ∷ 49 ∷ 48 ∷ 48 ∷ 48 ∷ 32 ∷ 50 ∷ 10 ∷ [])
    -- span 970 1030
    ++ (115 ∷ 112 ∷ 97 ∷ 110 ∷ 32 ∷ 57 ∷ 55 ∷ 48 ∷ 32 ∷ 49 ∷ 48 ∷ 51 ∷ 48 ∷ 10 ∷ [])

example : report_of input ≡ output
unfolding input output report_of text_of lines_from line_of fields decimal_of places_from next_of bodies_from maps_in header_fault read_of misordered misplaced fault_of advanced ended_at walked fields_of bad_backoffs word_at sid_allowed listed ahead within qualifies further furthest span_from span_of
example = refl
