-- Document 01, "The message": the header.
use Rattle.std.specs.Prelude.{ℕ, List, get_or}
use Rattle.rules.specs.declared.fields.Fields.{Fields}
use Rattle.message.specs.Element.{word_at}

-- "channel ID 1 byte, UCD count 1, number of elements n 1, reserved 1, Alloc Start Time 4, Ack Time 4, ranging backoff start and end 1 each, data backoff start and end 1 each"
unfoldable pub fields_of : List ℕ → Fields
fields_of s = record {
  channel = get_or s 0 0;
  count = get_or s 1 0;
  start = record { 0 = word_at s 4 };
  ack = record { 0 = word_at s 8 };
  ranging = record { start = get_or s 12 0; end = get_or s 13 0 };
  «data» = record { start = get_or s 14 0; end = get_or s 15 0 };
}

abbrev pub count_of : List ℕ → ℕ
count_of s = get_or s 2 0

abbrev pub reserved_of : List ℕ → ℕ
reserved_of s = get_or s 3 0
