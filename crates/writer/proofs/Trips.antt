-- The round trip: reading what was written, and writing what was read.
use mathlib.Core.Path.{◌≡◌, refl, sym, ◌∙◌, ap}
use mathlib.Core.Bool.{Bool, true, false, cond, ◌&&◌, ◌||◌}
use mathlib.Core.List.{List, [], ◌∷◌, ◌++◌, append_assoc}
use Prim.Native.Nat.{ℕ, zero, suc, ◌+◌, ◌*◌, ◌/◌, ◌%◌, ◌≤◌, ◌<◌}
use native.Mathlib.Omega.{arith}
use native.Mathlib.Nat.{div-add-mod', mod-eq_of_lt}
use lib.Pow.{shr-shr, shr_lt}
use lib.Dec.{leb, eqb}
use borrow.Author.Tests.{leb-true, eqb-true, ltb-false, le-ltb, ne_eqb, not-false}
use lib.ListN.{length, get_or, take, drop, set, length-append, length-drop, take-append-drop}
use lib.Seq.{get_or-append-add, drop-cons, take-add, drop-drop, take_all, set-append_left, set-get_or, get_or-set_same, length-take-le, take_at}
use Rattle.rules.specs.declared.element.Element.{Element}
use Rattle.rules.specs.declared.fields.Fields.{Fields}
use Rattle.rules.specs.declared.rules.Progress.{Progress}
use Rattle.std.specs.Prelude.{Result, Ok}
use Rattle.rules.specs.Rules.{granting, misplaced, walked, advanced, nothing_yet}
use Rattle.message.specs.declared.reading.Reading.{Reading}
use Rattle.rules.specs.declared.refusal.Refusal.{Refusal}
use Rattle.message.specs.Reading.{header_fault, map_of, read_of}
use Rattle.message.proofs.Ways.{header_good}
use Rattle.message.proofs.Lists.{length_listed}
use Rattle.writer.proofs.Stores.{length_header, length_message, Writes, writes}
use Rattle.message.proofs.Accepted.{Passes, as_whole, whole_step, accepted}
use Rattle.rules.specs.Sids.{within, sid_allowed}
use Rattle.rules.specs.Backoffs.{bad_backoffs}
use Rattle.message.specs.Fields.{fields_of, count_of, reserved_of}
use contract.Lifetimes
use borrow.Fn.World
use borrow.Fn.Kinds as Kinds'
use denote.Triple.Clauses
use Rattle.message.specs.contracts.reading.read as read'
use Rattle.message.proofs.reading.read.Reads as read
use Rattle.message.proofs.reading.read.Kinds as read_kinds
use Rattle.writer.specs.contracts.writing.write as write'
use Rattle.writer.proofs.writing.write.Reads as write
use Rattle.writer.proofs.writing.write.Kinds as write_kinds
use Rattle.message.specs.Lists.{listed}
use Rattle.message.specs.Element.{word_at, element_of, element_in}
use Rattle.writer.specs.Writing.{bytes_of, word_of, header_of, elements_of, message_of, written_of, write_into}

-- an element whose values fit their bits
pub record Narrow (e : Element) : Type 0 where
  pub sid : e.sid < 16384
  pub iuc : e.iuc < 16
  pub offset : e.offset < 16384

word_back : (e : Element) → Narrow e → element_of (word_of e) ≡ e
word_back e h = λ i. record { sid = one i; iuc = two i; offset = three i }
  where
    one : word_of e / 262144 ≡ e.sid
    one = omega arith

    two : word_of e / 16384 % 16 ≡ e.iuc
    two = omega arith

    three : word_of e % 16384 ≡ e.offset
    three = omega arith

element_word : (w : ℕ) → w < 4294967296 → word_of (element_of w) ≡ w
element_word w h = omega arith

bytes_back : (w : ℕ) → w < 4294967296 → w / 16777216 % 256 * 16777216 + w / 65536 % 256 * 65536 + w / 256 % 256 * 256 + w % 256 ≡ w
bytes_back w h =
    let two : w / 256 / 256 ≡ w / 65536 = shr-shr w 8 8 in
    let three : w / 65536 / 256 ≡ w / 16777216 = shr-shr w 16 8 in
    let low : w / 256 * 256 + w % 256 ≡ w = div-add-mod' w 256 in
    let mid : w / 65536 * 256 + w / 256 % 256 ≡ w / 256 = rw two at (div-add-mod' (w / 256) 256) in
    let high : w / 16777216 * 256 + w / 65536 % 256 ≡ w / 65536 = rw three at (div-add-mod' (w / 65536) 256) in
    let top : w / 16777216 % 256 ≡ w / 16777216 = mod-eq_of_lt (shr_lt 8 24 h) in
    linear (w / 16777216) (w / 65536) (w / 256) w (w / 16777216 % 256) (w / 65536 % 256) (w / 256 % 256) (w % 256) top high mid low
  where
    linear : (q3 q2 q1 w a b c d : ℕ) → a ≡ q3 → q3 * 256 + b ≡ q2 → q2 * 256 + c ≡ q1 → q1 * 256 + d ≡ w → a * 16777216 + b * 65536 + c * 256 + d ≡ w
    linear q3 q2 q1 w a b c d p q r s = omega arith

word_bytes : (a b c d : ℕ) → a < 256 → b < 256 → c < 256 → d < 256 → bytes_of (a * 16777216 + b * 65536 + c * 256 + d) ≡ a ∷ b ∷ c ∷ d ∷ []
unfolding bytes_of
word_bytes a b c d p q r s =
    let w = a * 16777216 + b * 65536 + c * 256 + d in
    let one : w / 16777216 % 256 ≡ a = omega arith in
    let two : w / 65536 % 256 ≡ b = omega arith in
    let three : w / 256 % 256 ≡ c = omega arith in
    let four : w % 256 ≡ d = omega arith in
    rw (one, two, three, four) refl

-- four bytes after any others are the word that they were made of
module _ (p : List ℕ) (w : ℕ) (fits : w < 4294967296) (rest : List ℕ) (at : ℕ) (here : length p ≡ at) where
  word_there : word_at (p ++ (bytes_of w ++ rest)) at ≡ w
  unfolding word_at bytes_of
  word_there =
      let a : ℕ = w / 16777216 % 256 in
      let b : ℕ = w / 65536 % 256 in
      let c : ℕ = w / 256 % 256 in
      let d : ℕ = w % 256 in
      let q : List ℕ = a ∷ b ∷ c ∷ d ∷ rest in
      let e0 : get_or (p ++ q) at 0 ≡ a = ap (λ (n : ℕ). get_or (p ++ q) n 0) (omega arith) ∙ get_or-append-add p q 0 0 in
      let e1 : get_or (p ++ q) (at + 1) 0 ≡ b = ap (λ (n : ℕ). get_or (p ++ q) n 0) (omega arith) ∙ get_or-append-add p q 1 0 in
      let e2 : get_or (p ++ q) (at + 2) 0 ≡ c = ap (λ (n : ℕ). get_or (p ++ q) n 0) (omega arith) ∙ get_or-append-add p q 2 0 in
      let e3 : get_or (p ++ q) (at + 3) 0 ≡ d = ap (λ (n : ℕ). get_or (p ++ q) n 0) (omega arith) ∙ get_or-append-add p q 3 0 in
      rw (e0, e1, e2, e3) (bytes_back w fits)

word_fits : (e : Element) → word_of e < 4294967296
word_fits e = omega arith

abbrev pub All : {A : Type 0} → (A → Type 0) → List A → Type 0
All P [] = Unit {0}
All P (x ∷ xs) = P x × All P xs

four : (w : ℕ) → length (bytes_of w) ≡ 4
unfolding bytes_of
four w = refl

and_right : (a b : Bool) → (a && b) ≡ true → b ≡ true
and_right true b e = e
and_right false b e = absurd (let z : ◌≡◌ {A = ℕ} 0 1 = cc in omega arith)

or_elim : {A : Type 0} (a b : Bool) → (a || b) ≡ true → (a ≡ true → A) → (b ≡ true → A) → A
or_elim true b e f g = f refl
or_elim false b e f g = g e

-- what the rules accept fits its bits
within_narrow : (low high sid : ℕ) → high < 16384 → within low high sid ≡ true → sid < 16384
within_narrow low high sid h e = let top = leb-true sid high (and_right (leb low sid) (leb sid high) e) in omega arith

sid_narrow : (iuc sid : ℕ) → sid_allowed iuc sid ≡ true → sid < 16384
unfolding sid_allowed
sid_narrow iuc sid h = go (eqb iuc 1) (eqb iuc 2) (eqb iuc 3) (eqb iuc 7) h
  where
    is : (n : ℕ) → n < 16384 → eqb sid n ≡ true → sid < 16384
    is n b e = let same = eqb-true sid n e in omega arith

    go : (a b c d : Bool) → cond a (within 0x0001 0x3DFF sid || within 0x3E01 0x3EFF sid || eqb sid 0x3FFF) (cond b (within 0x2000 0x3DFF sid || within 0x3FF1 0x3FFE sid) (cond c (within 0x2000 0x3DFF sid || eqb sid 0x3FFF) (cond d (eqb sid 0) (within 0x0001 0x1FFF sid)))) ≡ true → sid < 16384
    go true b c d e = or_elim (within 0x0001 0x3DFF sid || within 0x3E01 0x3EFF sid) (eqb sid 0x3FFF) e (λ x. or_elim (within 0x0001 0x3DFF sid) (within 0x3E01 0x3EFF sid) x (within_narrow 0x0001 0x3DFF sid (omega arith)) (within_narrow 0x3E01 0x3EFF sid (omega arith))) (is 0x3FFF (omega arith))
    go false true c d e = or_elim (within 0x2000 0x3DFF sid) (within 0x3FF1 0x3FFE sid) e (within_narrow 0x2000 0x3DFF sid (omega arith)) (within_narrow 0x3FF1 0x3FFE sid (omega arith))
    go false false true d e = or_elim (within 0x2000 0x3DFF sid) (eqb sid 0x3FFF) e (within_narrow 0x2000 0x3DFF sid (omega arith)) (is 0x3FFF (omega arith))
    go false false false true e = is 0 (omega arith) e
    go false false false false e = within_narrow 0x0001 0x1FFF sid (omega arith) e

-- .. once the Null has closed the intervals, the map length is at most 4,096
near_offset : (p : Progress) (e : Element) → (p.closed ≡ true → p.offset ≤ 4096) → Passes p e → e.offset ≤ 4096
unfolding misplaced
near_offset p e h a = go p.closed refl
  where
    go : (b : Bool) → p.closed ≡ b → e.offset ≤ 4096
    go true c = let same = eqb-true e.offset p.offset (not-false _ (rw c at a.placed)) in let top = h c in omega arith
    go false c = ltb-false 4096 e.offset (rw c at a.near)

advanced_near : (p : Progress) (e : Element) (i : ℕ) → (p.closed ≡ true → p.offset ≤ 4096) → e.offset ≤ 4096 → (advanced p e i).offset ≤ 4096
unfolding advanced
advanced_near p e i h near = go p.closed refl (eqb e.iuc 7)
  where
    go : (b : Bool) → p.closed ≡ b → (d : Bool) → (cond b p (cond d (record { first = false; closed = true; null = i; offset = e.offset; granting = false }) (record { first = false; closed = false; null = 0; offset = e.offset; granting = granting e.iuc }))).offset ≤ 4096
    go true c d = h c
    go false c true = near
    go false c false = near

pub whole_narrow : (k l i : ℕ) (p : Progress) (es : List Element) → (p.closed ≡ true → p.offset ≤ 4096) → walked i p es ≡ as_whole k l → All Narrow es
whole_narrow k l i p [] h w = tt
whole_narrow k l i p (e ∷ es) h w =
    let step = whole_step k l i p e es w in
    let a = step.0 in (
      record {
        sid = sid_narrow e.iuc e.sid (not-false _ a.allowed);
        iuc = let top = leb-true e.iuc 8 (and_right (leb 1 e.iuc) (leb e.iuc 8) (not-false _ a.used)) in omega arith;
        offset = let top = near_offset p e h a in omega arith;
      },
      whole_narrow k l (i + 1) (advanced p e i) es (λ c. advanced_near p e i h (near_offset p e h a)) step.1,
    )

-- elements read back, from the i-th on, where s is p and their bytes
pub elements_back : (p : List ℕ) (es : List Element) (s : List ℕ) (i : ℕ) → s ≡ p ++ elements_of es → length p ≡ 16 + 4 * i → All Narrow es → listed (element_in s) i (length es) ≡ es
unfolding listed elements_of
elements_back p [] s i e h a = refl
elements_back p (x ∷ es) s i e h (a, b) =
    let first : element_in s i ≡ x = ap element_of (ap (λ (l : List ℕ). word_at l (16 + 4 * i)) e ∙ word_there p (word_of x) (word_fits x) (elements_of es) (16 + 4 * i) h) ∙ word_back x a in
    let next : s ≡ (p ++ bytes_of (word_of x)) ++ elements_of es = e ∙ sym (append_assoc p (bytes_of (word_of x)) (elements_of es)) in
    let long : length (p ++ bytes_of (word_of x)) ≡ 16 + 4 * (i + 1) = length-append p (bytes_of (word_of x)) ∙ omega (arith, four (word_of x)) in
    rw (first, elements_back (p ++ bytes_of (word_of x)) es s (i + 1) next long b) refl

-- the values of the fields fit their bytes
pub record Fits (f : Fields) : Type 0 where
  pub start : f.start.0 < 4294967296
  pub ack : f.ack.0 < 4294967296

module _ (f : Fields) (fits : Fits f) (es : List Element) (few : length es ≤ 240) where
  pub count_back : count_of (message_of f es) ≡ length es
  unfolding message_of header_of bytes_of
  count_back = mod-eq_of_lt (omega arith)

  pub map_back : All Narrow es → (map_of (message_of f es)).elements ≡ es
  unfolding message_of
  map_back a = rw count_back (elements_back (header_of f (length es)) es (message_of f es) 0 refl (length_header f es [] (length es)) a)

  pub fields_back : fields_of (message_of f es) ≡ f
  unfolding message_of header_of fields_of bytes_of word_at
  fields_back = λ i. record {
    channel = f.channel;
    count = f.count;
    start = record { 0 = bytes_back f.start.0 fits.start i };
    ack = record { 0 = bytes_back f.ack.0 fits.ack i };
    ranging = f.ranging;
    «data» = f.«data»;
  }

  header_clean : bad_backoffs f ≡ false → 1 ≤ length es → header_fault (message_of f es) ≡ Ok tt
  header_clean good some =
      let long = length_message f es [] in
      sym (header_good (message_of f es) (omega arith) (length es) (sym count_back) (λ z. omega arith) few long (rw fields_back good))

  pub reads_back : (k l : ℕ) → bad_backoffs f ≡ false → 1 ≤ length es → walked 0 nothing_yet es ≡ as_whole k l → read_of (message_of f es) ≡ Ok (record { fields = f; n = length es; null = k; length = l })
  unfolding read_of
  reads_back k l good some w =
      let clean : header_fault (message_of f es) ≡ Ok tt = header_clean good some in
      let same : (map_of (message_of f es)).elements ≡ es = map_back (whole_narrow k l 0 nothing_yet es (λ c. absurd (let z : ◌≡◌ {A = ℕ} 0 1 = cc in omega arith)) w) in
      rw (clean, same, fields_back, count_back, w) refl

-- a list by its numbers
numbers : (k : ℕ) (s : List ℕ) (i : ℕ) → i + k ≤ length s → take k (drop i s) ≡ listed (λ j. get_or s j 0) i k
unfolding listed
numbers zero s i h = take_zero (drop i s)
  where
    take_zero : (l : List ℕ) → take 0 l ≡ []
    take_zero [] = refl
    take_zero (x ∷ l) = refl
numbers (suc k) s i h =
    let here : drop i s ≡ get_or s i 0 ∷ drop (suc i) s = drop-cons s i 0 (omega arith) in
    let next : suc i ≡ i + 1 = omega arith in
    rw (here, next, numbers k s (i + 1) (omega arith)) refl

pub Bytes : List ℕ → Type 0
Bytes s = (j : ℕ) → get_or s j 0 < 256

module _ (s : List ℕ) (bytes : Bytes s) where
  -- four bytes read as a word, written again
  word_again : (at : ℕ) → bytes_of (word_at s at) ≡ get_or s at 0 ∷ get_or s (at + 1) 0 ∷ get_or s (at + 2) 0 ∷ get_or s (at + 3) 0 ∷ []
  unfolding word_at Bytes
  word_again at = word_bytes (get_or s at 0) (get_or s (at + 1) 0) (get_or s (at + 2) 0) (get_or s (at + 3) 0) (bytes at) (bytes (at + 1)) (bytes (at + 2)) (bytes (at + 3))

  word_small : (at : ℕ) → word_at s at < 4294967296
  unfolding word_at Bytes
  word_small at = omega (arith, bytes at, bytes (at + 1), bytes (at + 2), bytes (at + 3))

  word_part : (at : ℕ) → at + 4 ≤ length s → bytes_of (word_at s at) ≡ take 4 (drop at s)
  unfolding listed
  word_part at h =
      let two : at + 1 + 1 ≡ at + 2 = omega arith in
      let three : at + 2 + 1 ≡ at + 3 = omega arith in
      word_again at ∙ sym (numbers 4 s at h ∙ rw (two, three) refl)

  elements_again : (k i : ℕ) → 16 + 4 * (i + k) ≤ length s → elements_of (listed (element_in s) i k) ≡ take (4 * k) (drop (16 + 4 * i) s)
  unfolding elements_of listed
  elements_again zero i h = sym (numbers 0 s (16 + 4 * i) (omega arith))
  elements_again (suc k) i h =
      let from : List ℕ = drop (16 + 4 * i) s in
      let first : bytes_of (word_of (element_in s i)) ≡ take 4 from = ap bytes_of (element_word (word_at s (16 + 4 * i)) (word_small (16 + 4 * i))) ∙ word_part (16 + 4 * i) (omega arith) in
      let next : drop 4 from ≡ drop (16 + 4 * (i + 1)) s = (let e : 16 + 4 * i + 4 ≡ 16 + 4 * (i + 1) = omega arith in drop-drop 4 (16 + 4 * i) s ∙ ap (λ (n : ℕ). drop n s) e) in
      let more : 4 * suc k ≡ 4 + 4 * k = omega arith in
      rw (first, more, take-add 4 (4 * k) from, next, elements_again k (i + 1) (omega arith)) refl

  -- the message of what was read: the same bytes, but for the reserved one
  module _ (n : ℕ) (count : get_or s 2 0 ≡ n) (whole : length s ≡ 16 + 4 * n) where
    abbrev pub written : List ℕ
    written = message_of (fields_of s) (listed (element_in s) 0 n)

    header_again : header_of (fields_of s) n ≡ set (take 16 s) 3 0
    unfolding header_of fields_of listed Bytes
    header_again =
        let small : n % 256 ≡ get_or s 2 0 = mod-eq_of_lt (rw count at (bytes 2)) ∙ sym count in
        rw (word_again 4, word_again 8, small, numbers 16 s 0 (omega arith)) refl

    pub writes_again : written ≡ set s 3 0
    unfolding message_of
    writes_again =
        let all : take (4 * n) (drop 16 s) ≡ drop 16 s = take_all (4 * n) (drop 16 s) (omega (arith, length-drop 16 s)) in
        let tail : elements_of (listed (element_in s) 0 n) ≡ drop 16 s = elements_again n 0 (omega arith) ∙ all in
        let split : set s 3 0 ≡ set (take 16 s) 3 0 ++ drop 16 s = ap (λ (l : List ℕ). set l 3 0) (sym (take-append-drop 16 s)) ∙ set-append_left (take 16 s) (drop 16 s) 3 0 (omega (arith, length-take-le 16 s (omega arith))) in
        rw (length_listed (element_in s) 0 n, tail, header_again) (sym split)

    -- "writing what was read gives the same bytes exactly when reserved was 0"
    pub same_bytes : reserved_of s ≡ 0 → written ≡ s
    same_bytes zero' = writes_again ∙ (rw zero' at (set-get_or s 3 0))

    pub only_then : written ≡ s → reserved_of s ≡ 0
    only_then e = ap (λ (l : List ℕ). get_or l 3 0) (sym (sym writes_again ∙ e)) ∙ get_or-set_same s 3 0 0 (omega arith)

-- the writer takes whatever the reader accepts, where there is room for it
pub takes_read : (s : List ℕ) (reading : Reading) → read_of s ≡ Ok reading → (room : ℕ) → length s ≤ room → written_of (fields_of s) (map_of s).elements room ≡ Ok (length s)
unfolding written_of
takes_read s reading w room h =
    let a = accepted s reading w in
    let some = a.sound.some in
    let all : length (map_of s).elements ≡ count_of s = length_listed (element_in s) 0 (count_of s) in
    rw (all, ne_eqb (count_of s) 0 (λ z. omega arith), le-ltb 240 (count_of s) a.sound.few, a.sound.backoffs, a.walk, sym a.sound.fits, le-ltb room (length s) h) refl

-- what was written reads back, and how much of the bytes it is
module _ (f : Fields) (es : List Element) (old new : List ℕ) (size : ℕ) (r : Result ℕ Refusal) (answered : r ≡ written_of f es (length old)) (content : new ≡ write_into f es old) (is : r ≡ Ok size) where
  abbrev pub done : Writes f es (length old) size
  done = writes f es (length old) size (sym answered ∙ is)

  pub wrote_message : take size new ≡ message_of f es
  wrote_message =
      let long : length (message_of f es) ≡ size = length_message f es [] ∙ sym done.sized in
      let whole : new ≡ message_of f es ++ drop (length (message_of f es)) old = content ∙ rw (sym answered ∙ is) refl in
      rw whole (take_at (message_of f es) (drop (length (message_of f es)) old) size long)

  pub trip : Fits f → (s : List ℕ) → s ≡ take size new → (read_of s ≡ Ok (record { fields = f; n = length es; null = done.null; length = done.end })) × (map_of s ≡ record { fields = f; elements = es })
  trip fits s e =
      let same : s ≡ message_of f es = e ∙ wrote_message in
      let narrow : All Narrow es = whole_narrow done.null done.end 0 nothing_yet es (λ c. absurd (let z : ◌≡◌ {A = ℕ} 0 1 = cc in omega arith)) done.walk in
      (rw same (reads_back f fits es done.few done.null done.end done.backoffs done.some done.walk), rw same (λ i. record { fields = fields_back f fits es done.few i; elements = map_back f fits es done.few narrow i }))

-- the two functions, by their contracts
module _ (κs : Lifetimes.Lfts 2) (a : World.ArgsD write'.signature κs) (r : World.ResD write'.signature κs) (s : Clauses.AtExit (Kinds'.ended_of 2 write_kinds.ps write_kinds.r) κs) (wrote : write.Post κs a r s)
    (λs : Lifetimes.Lfts 1) (b : World.ArgsD read'.signature λs) (v : World.ResD read'.signature λs) (t : Clauses.AtExit (Kinds'.ended_of 1 read_kinds.ps read_kinds.r) λs) (found : read.Post λs b v t) where
  abbrev pub es : List Element
  es = a.1.0.now

  -- what `read` accepted, `write` doesn't refuse where there is room for it
  pub write_takes_read : (reading : Reading) → v ≡ Ok reading → a.0 ≡ fields_of b.0.now → es ≡ (map_of b.0.now).elements → length b.0.now ≤ length a.1.1.0.now → r ≡ Ok (length b.0.now)
  write_takes_read reading accepts fields elements room = wrote.0 ∙ rw (fields, elements) (takes_read b.0.now reading (sym found ∙ accepts) (length a.1.1.0.now) room)

  -- what `write` wrote, `read` reads with the same fields and elements
  module _ (size : ℕ) (is : r ≡ Ok size) where
    pub read_after_write : Fits a.0 → b.0.now ≡ take size s.1.1.0.now → (k : ℕ) × (l : ℕ) × (v ≡ Ok (record { fields = a.0; n = length es; null = k; length = l })) × (map_of b.0.now ≡ record { fields = a.0; elements = es })
    read_after_write fits same =
        let old = a.1.1.0.now in
        let new = s.1.1.0.now in
        let d = done a.0 es old new size r wrote.0 wrote.1 is in
        let both = trip a.0 es old new size r wrote.0 wrote.1 is fits b.0.now same in
        (d.null, d.end, found ∙ both.0, both.1)

    -- .. and what `read` read, `write` writes again as the same bytes exactly when reserved was 0
    module _ (bytes : Bytes b.0.now) (reading : Reading) (accepts : v ≡ Ok reading) (fields : a.0 ≡ fields_of b.0.now) (elements : es ≡ (map_of b.0.now).elements) where
      again : (take size s.1.1.0.now ≡ written b.0.now bytes (count_of b.0.now) refl (accepted b.0.now reading (sym found ∙ accepts)).sound.fits)
      again = wrote_message a.0 es a.1.1.0.now s.1.1.0.now size r wrote.0 wrote.1 is ∙ rw (fields, elements) refl

      pub write_after_read : reserved_of b.0.now ≡ 0 → take size s.1.1.0.now ≡ b.0.now
      write_after_read zero' = again ∙ same_bytes b.0.now bytes (count_of b.0.now) refl (accepted b.0.now reading (sym found ∙ accepts)).sound.fits zero'

      pub reserved_zero : take size s.1.1.0.now ≡ b.0.now → reserved_of b.0.now ≡ 0
      reserved_zero e = only_then b.0.now bytes (count_of b.0.now) refl (accepted b.0.now reading (sym found ∙ accepts)).sound.fits (sym again ∙ e)
