-- Document 01's numbers of the message both ways, computed with the definitions that the contracts cite.
use mathlib.Core.Path.{◌≡◌, refl}
use mathlib.Core.Bool.{Bool, true, false, ◌&&◌}
use mathlib.Core.List.{List, ◌∷◌}
use Prim.Native.Nat.{ℕ}
use lib.Dec.{eqb}
use lib.ListN.{replicate}
use Rattle.rules.specs.declared.fields.Fields.{Fields}
use Rattle.std.specs.Prelude.{Result, Ok, Err}
use Rattle.message.specs.declared.reading.Reading.{Reading}
use Rattle.rules.specs.declared.refusal.Refusal.{Refusal}
use Rattle.rules.specs.Refusals.{number_of}
use Rattle.message.specs.Lists.{listed}
use Rattle.rules.specs.Sids.{sid_allowed}
use Rattle.message.specs.Element.{word_at, element_of}
use Rattle.rules.specs.Backoffs.{bad_backoffs}
use Rattle.message.specs.Fields.{fields_of}
use Rattle.rules.specs.Rules.{misordered, misplaced, fault_of, advanced, ended_at, walked}
use Rattle.message.specs.Reading.{header_fault, read_of}
use Rattle.rules.proofs.Worked.{element, request}
use Rattle.writer.specs.Writing.{word_of, bytes_of, header_of, elements_of, message_of}

-- an element is this word, both ways
abbrev pub is_word : ℕ → ℕ → ℕ → ℕ → Bool
is_word sid iuc offset word =
    let e = element_of word in
    eqb (word_of (element sid iuc offset)) word && eqb e.sid sid && eqb e.iuc iuc && eqb e.offset offset

unfoldable pub words : Bool
words = is_word 0x3FFF 1 0 0xFFFC4000 && is_word 5 6 6 0x00158006 && is_word 0 7 30 0x0001C01E

abbrev pub fields : Fields
fields = record {
  channel = 1;
  count = 2;
  start = record { 0 = 1000 };
  ack = record { 0 = 980 };
  ranging = record { start = 0; end = 4 };
  «data» = record { start = 2; end = 6 };
}

abbrev pub accepts : ℕ → Result Reading Refusal → Bool
accepts n (Ok r) = eqb n r.n
accepts n (Err why) = false

abbrev pub refuses : ℕ → Result Reading Refusal → Bool
refuses number (Ok r) = false
refuses number (Err why) = eqb number (number_of why.reason) && eqb 0 why.element

-- a MAP of n elements, all but two of them pendings
abbrev pub long : ℕ → List ℕ
long pendings = message_of fields (request ∷ element 0 7 30 ∷ replicate pendings (element 5 5 30))

unfoldable pub counts : Bool
counts = accepts 240 (read_of (long 238)) && refuses 2 (read_of (long 239))

pub numbers : (words && counts) ≡ true
unfolding words counts listed sid_allowed word_at fields_of bad_backoffs misordered misplaced fault_of advanced ended_at walked header_fault read_of bytes_of header_of elements_of message_of
numbers = refl
