-- Document 01, "The message" and "Refusal numbers": writing.
use Rattle.std.specs.Prelude.{ℕ, ◌+◌, ◌*◌, ◌/◌, ◌%◌, ◌^◌, cond, ◌||◌, List, [], ◌∷◌, ◌++◌, leb, ltb, eqb, length, drop, Result, Ok, Err}
use Rattle.rules.specs.declared.element.Element.{Element}
use Rattle.rules.specs.declared.fields.Fields.{Fields}
use Rattle.rules.specs.declared.rules.Whole.{Whole}
use Rattle.rules.specs.declared.refusal.Reason.TheVariants.{Count, Backoff, Room}
use Rattle.rules.specs.declared.refusal.Refusal.{Refusal}
use Rattle.rules.specs.Refusals.{refusal}
use Rattle.rules.specs.Backoffs.{bad_backoffs}
use Rattle.rules.specs.Rules.{walked, nothing_yet}

-- "Most significant byte first"
unfoldable pub bytes_of : ℕ → List ℕ
bytes_of word = word / 2 ^ 24 % 2 ^ 8 ∷ word / 2 ^ 16 % 2 ^ 8 ∷ word / 2 ^ 8 % 2 ^ 8 ∷ word % 2 ^ 8 ∷ []

-- "SID 14 bits, use (IUC) 4 bits, offset 14 bits"
abbrev pub word_of : Element → ℕ
word_of e = e.sid % 2 ^ 14 * 2 ^ 18 + e.iuc % 2 ^ 4 * 2 ^ 14 + e.offset % 2 ^ 14

-- "channel ID 1 byte, UCD count 1, number of elements n 1, reserved 1, Alloc Start Time 4, Ack Time 4, ranging backoff start and end 1 each, data backoff start and end 1 each"; "Reserved is written 0"
unfoldable pub header_of : Fields → ℕ → List ℕ
header_of f n =
    f.channel ∷ f.count ∷ n % 2 ^ 8 ∷ 0 ∷ []
    ++ bytes_of f.start.0
    ++ bytes_of f.ack.0
    ++ (f.ranging.start ∷ f.ranging.end ∷ f.«data».start ∷ f.«data».end ∷ [])

-- "then n elements of 4 bytes"
unfoldable pub elements_of : List Element → List ℕ
elements_of [] = []
elements_of (e ∷ es) = bytes_of (word_of e) ++ elements_of es

unfoldable pub message_of : Fields → List Element → List ℕ
message_of f es = header_of f (length es) ++ elements_of es

-- "The whole is 16 + 4n bytes"
abbrev pub size_of : List Element → ℕ
size_of es = 16 + 4 * length es

-- 11 last: "lent bytes too few"
abbrev pub room_for : ℕ → ℕ → Result ℕ Refusal
room_for size room = cond (ltb room size) (Err (refusal Room 0)) (Ok size)

abbrev pub written_by : Result Whole Refusal → ℕ → ℕ → Result ℕ Refusal
written_by (Ok w) size room = room_for size room
written_by (Err why) size room = Err why

-- "The writer skips 1 and 3, gives 11 last"
unfoldable pub written_of : Fields → List Element → ℕ → Result ℕ Refusal
written_of f es room =
    cond (eqb (length es) 0 || ltb 240 (length es)) (Err (refusal Count 0))
    (cond (bad_backoffs f) (Err (refusal Backoff 0))
    (written_by (walked 0 nothing_yet es) (size_of es) room))

-- "touches only the message's own bytes"
abbrev pub onto : List ℕ → List ℕ → List ℕ
onto new old = new ++ drop (length new) old

-- "A refusal .. changes .. no lent byte"
abbrev pub content_of : Result ℕ Refusal → List ℕ → List ℕ → List ℕ
content_of (Ok size) message old = onto message old
content_of (Err why) message old = old

-- the message laid out where there is room for it
unfoldable pub laid_out : Fields → List Element → List ℕ → List ℕ
laid_out f es old = cond (leb (size_of es) (length old)) (onto (message_of f es) old) old

-- what the lent bytes hold once a message was written, or refused
abbrev pub write_into : Fields → List Element → List ℕ → List ℕ
write_into f es old = content_of (written_of f es (length old)) (message_of f es) old
