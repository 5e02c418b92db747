-- Document 01, "Numbers to check": the cases marked P, in one table. What is computed is computed by the definitions that the contracts cite.
use Rattle.std.specs.Prelude.{Bool, true, false, cond, ◌&&◌, List, [], ◌∷◌, ℕ, eqb}
use Rattle.slots.specs.declared.time.Timestamp.{Timestamp}
use Rattle.slots.specs.declared.span.Span.{Span}
use Rattle.slots.specs.declared.span.Span.TheVariants as span
use Rattle.slots.specs.Time.{earlier}
use Rattle.slots.specs.Begins.{begins_at}
use Rattle.slots.specs.Span.{Described, span_of}
use Rattle.rules.specs.declared.element.Element.{Element}
use Rattle.rules.specs.declared.fields.Fields.{Fields}
use Rattle.message.specs.Element.{element_of}
use Rattle.message.specs.Reading.{read_of}
use Rattle.writer.specs.Writing.{word_of, message_of}
use Rattle.station.specs.declared.record.Phase.{Phase}
use Rattle.station.specs.declared.record.Phase.TheVariants.{Idle, Wanting, Deferring, Waiting}
use Rattle.station.specs.declared.record.Station.{Station}
use Rattle.hearing.specs.Opportunities.{contention_in}
use Rattle.hearing.specs.Hearing.{hear_of}
use Rattle.std.specs.Prelude.{Option, Some, None, Result, Ok, Err}
use Rattle.message.specs.declared.reading.Reading.{Reading}
use Rattle.rules.specs.declared.refusal.Refusal.{Refusal}
use Rattle.rules.specs.Refusals.{number_of}

-- a case: what the definitions give, and what the paper says
pub record Case : Type 0 where
  pub computed : List ℕ
  pub paper : List ℕ

abbrev pub gives : List ℕ → List ℕ → Case
gives computed paper = record { computed = computed; paper = paper }

-- a case holds: the same numbers
abbrev pub same : List ℕ → List ℕ → Bool
same [] [] = true
same [] (y ∷ ys) = false
same (x ∷ xs) [] = false
same (x ∷ xs) (y ∷ ys) = eqb x y && same xs ys

abbrev pub holds : Case → Bool
holds c = same c.computed c.paper

abbrev pub all_hold : List Case → Bool
all_hold [] = true
all_hold (c ∷ cs) = holds c && all_hold cs

abbrev pub element : ℕ → ℕ → ℕ → Element
element sid iuc offset = record { sid = sid; iuc = iuc; offset = offset }

-- an element written, and a word read
abbrev pub both : Element → ℕ → List ℕ
both e word = let r = element_of word in word_of e ∷ r.sid ∷ r.iuc ∷ r.offset ∷ []

-- yes is 1, no is 0
abbrev pub yes : Bool → ℕ
yes b = cond b 1 0

-- a MAP of channel 1, description 2, data backoffs 2 to 4
abbrev pub fields : ℕ → ℕ → Fields
fields start ack = record { channel = 1; count = 2; start = record { 0 = start }; ack = record { 0 = ack }; ranging = record { start = 0; end = 4 }; «data» = record { start = 2; end = 4 } }

-- .. its bytes, with one broadcast Request
abbrev pub broadcast : ℕ → ℕ → ℕ → List ℕ
broadcast start ack length = message_of (fields start ack) (element 0x3FFF 1 0 ∷ element 0 7 length ∷ [])

-- .. with one grant of a length, closed by the Null
abbrev pub granting : ℕ → List ℕ
granting length = message_of (fields 1000 980) (element 5 6 0 ∷ element 0 7 length ∷ [])

-- what reading answers: 0, or the refusal's number and element
abbrev pub answered : Result Reading Refusal → List ℕ
answered (Ok reading) = 0 ∷ []
answered (Err why) = number_of why.reason ∷ why.element ∷ []

-- a station's phase: 0 Idle; 1 Wanting; 2 Deferring, exponent, left, retries; 3 Waiting, exponent, retries, request time
abbrev pub phase : Phase → List ℕ
phase Idle = 0 ∷ []
phase (Wanting size) = 1 ∷ []
phase (Deferring exponent left retries size) = 2 ∷ exponent ∷ left ∷ retries ∷ []
phase (Waiting exponent retries time size) = 3 ∷ exponent ∷ retries ∷ time.0 ∷ []

-- station 5, and what it is after it heard a MAP; the draw is 7
abbrev pub station : ℕ → Phase → Station
station r p = record { sid = 5; channel = 1; count = 2; r = r; end = None; phase = p }

abbrev pub heard : Station → List ℕ → Station
heard st bytes = (hear_of st bytes 900 7).station

abbrev pub waiting : ℕ → Phase
waiting exponent = Waiting exponent 0 (record { 0 = 500 }) 20

-- the exponent with which it defers after a MAP that has no room for a request
abbrev pub exponent_in : List ℕ → ℕ
exponent_in [] = 0
exponent_in (kind ∷ []) = 0
exponent_in (kind ∷ exponent ∷ rest) = exponent

abbrev pub exponent_after : Phase → ℕ
exponent_after p = exponent_in (phase (heard (station 4 p) (broadcast 1000 501 3)).phase)

abbrev pub spanned : Span → List ℕ
spanned span.Nothing = []
spanned span.Lost = []
spanned (span.Over e l) = e.0 ∷ l.0 ∷ []

abbrev pub begun : Option Timestamp → List ℕ
begun (Some t) = t.0 ∷ []
begun None = []

abbrev pub described : ℕ → ℕ → Described
described start length = record { start = start; length = length }

-- "defer 11, r 1, intervals of 6, 2, 8"
abbrev pub first : Station
first = heard (station 1 (Deferring 4 11 0 20)) (broadcast 1000 0 6)

abbrev pub second : Station
second = heard first (broadcast 1006 0 2)

abbrev pub third : Station
third = heard second (broadcast 1008 0 8)

unfoldable pub table : List Case
table =
    -- "(0x3FFF, 1, 0) is FFFC4000; (5, 6, 6) is 00158006; (0, 7, 30) is 0001C01E"
    gives (both (element 0x3FFF 1 0) 0xFFFC4000) (0xFFFC4000 ∷ 0x3FFF ∷ 1 ∷ 0 ∷ [])
    ∷ gives (both (element 5 6 6) 0x00158006) (0x00158006 ∷ 5 ∷ 6 ∷ 6 ∷ [])
    ∷ gives (both (element 0 7 30) 0x0001C01E) (0x0001C01E ∷ 0 ∷ 7 ∷ 30 ∷ [])
    -- "defer 11, r 1, intervals of 6, 2, 8: 5 left, 3 left, then the fourth of the eight"
    ∷ gives (phase first.phase) (2 ∷ 4 ∷ 5 ∷ 0 ∷ [])
    ∷ gives (phase second.phase) (2 ∷ 4 ∷ 3 ∷ 0 ∷ [])
    ∷ gives (phase third.phase) (3 ∷ 4 ∷ 0 ∷ 1011 ∷ [])
    -- "SID 0x3FF2, r 1, length 7: three, at 0, 2, 4"
    ∷ gives (contention_in 1 (record { sid = 0x3FF2; iuc = 2; first = 0; length = 7 })) (0 ∷ 2 ∷ 4 ∷ [])
    -- "broadcast, r 4, length 3: none"
    ∷ gives (contention_in 4 (record { sid = 0x3FFF; iuc = 1; first = 0; length = 3 })) []
    -- "4294967290 is earlier than 4; of 0 and 2147483648 neither is earlier"
    ∷ gives (yes (earlier 32 4294967290 4) ∷ yes (earlier 32 0 2147483648) ∷ yes (earlier 32 2147483648 0) ∷ []) (1 ∷ 0 ∷ 0 ∷ [])
    -- "grant 255 passes, 256 is 9"
    ∷ gives (answered (read_of (granting 255))) (0 ∷ [])
    ∷ gives (answered (read_of (granting 256))) (9 ∷ 1 ∷ [])
    -- "Map length 4,096 passes, 4,097 is 8"
    ∷ gives (answered (read_of (broadcast 1000 980 4096))) (0 ∷ [])
    ∷ gives (answered (read_of (broadcast 1000 980 4097))) (8 ∷ 1 ∷ [])
    -- "exponents from start 2, end 4: 2, 3, 4, 4"
    ∷ gives (exponent_after (Wanting 20) ∷ exponent_after (waiting 2) ∷ exponent_after (waiting 3) ∷ exponent_after (waiting 4) ∷ []) (2 ∷ 3 ∷ 4 ∷ 4 ∷ [])
    -- "request time 500, Ack 500 still waiting, Ack 501 lost"
    ∷ gives (phase (heard (station 4 (waiting 2)) (broadcast 1000 500 3)).phase) (3 ∷ 2 ∷ 0 ∷ 500 ∷ [])
    ∷ gives (phase (heard (station 4 (waiting 2)) (broadcast 1000 501 3)).phase) (2 ∷ 3 ∷ 7 ∷ 1 ∷ [])
    -- "starts 0, 1431655765, 2863311530, lengths 30: no span"
    ∷ gives (spanned (span_of 32 (described 0 30 ∷ described 1431655765 30 ∷ described 2863311530 30 ∷ []))) []
    -- "T 4, mini-slot 1000 begins at 256000"
    ∷ gives (begun (begins_at 1000 2)) (256000 ∷ [])
    ∷ []
