-- Bytes stored into a list, and elements laid out one after the other.
use mathlib.Core.Path.{◌≡◌, refl, sym, ◌∙◌, ap}
use mathlib.Core.List.{List, [], ◌∷◌, ◌++◌, append_assoc, append-nil}
use Prim.Native.Nat.{ℕ, zero, suc, ◌+◌, ◌*◌, ◌≤◌, ◌<◌}
use native.Mathlib.Omega.{arith}
use lib.ListN.{length, get_or, take, drop, length-append, take-append-drop, length-drop}
use lib.Seq.{take_at, drop_at, drop-drop, length-take-le, take-length}
use Rattle.std.proofs.lemmas.List.{take_more}
use Rattle.message.proofs.Ways.{said, said_not}
use Rattle.rules.specs.declared.element.Element.{Element}
use Rattle.writer.specs.Writing.{bytes_of, word_of, header_of, elements_of, message_of, laid_out, onto, room_for, written_of, write_into}
use Rattle.rules.specs.declared.fields.Fields.{Fields}
use borrow.Author.Tests.{le-leb, lt-leb, lt-ltb, le-ltb, eq-eqb, ne_eqb, ltb-false, eqb-false}
use mathlib.Core.Bool.{Bool, true, false, cond}
use lib.Dec.{ltb, eqb}
use Rattle.rules.specs.declared.refusal.Refusal.{Refusal}
use Rattle.std.specs.Prelude.{Result, Ok, Err}
use Rattle.rules.specs.declared.rules.Whole.{Whole}
use Rattle.rules.specs.declared.refusal.Reason.{Reason}
use Rattle.rules.specs.declared.refusal.Reason.TheVariants.{Count, Backoff, Room}
use Rattle.rules.specs.Refusals.{refusal}
use Rattle.message.proofs.Accepted.{as_whole}
use Rattle.rules.specs.Backoffs.{bad_backoffs}
use Rattle.rules.specs.declared.rules.Progress.{Progress}
use Rattle.rules.specs.Rules.{walked, nothing_yet, fault_of, advanced, ended_at}

pub elements_append : (es fs : List Element) → elements_of (es ++ fs) ≡ elements_of es ++ elements_of fs
unfolding elements_of
elements_append [] fs = refl
elements_append (e ∷ es) fs = rw (elements_append es fs) (sym (append_assoc (bytes_of (word_of e)) (elements_of es) (elements_of fs)))

pub length_elements : (es : List Element) → length (elements_of es) ≡ 4 * length es
unfolding elements_of bytes_of
length_elements [] = refl
length_elements (e ∷ es) = let rest = length_elements es in omega arith

-- the bytes once k elements are laid out after the first 16
abbrev pub laid : List Element → List ℕ → ℕ → List ℕ
laid es o k = take 16 o ++ (elements_of (take k es) ++ drop (16 + 4 * k) o)

module _ (es : List Element) (o : List ℕ) (room : 16 + 4 * length es ≤ length o) where
  pub laid_none : o ≡ laid es o 0
  unfolding elements_of
  laid_none = sym (take-append-drop 16 o)

  module _ (k : ℕ) (few : k ≤ length es) where
    done : List ℕ
    done = take 16 o ++ elements_of (take k es)

    length_done : length done ≡ 16 + 4 * k
    unfolding done
    length_done = length-append (take 16 o) (elements_of (take k es)) ∙ omega (arith, length-take-le 16 o (omega arith), length_elements (take k es), length-take-le k es few)

    laid_done : laid es o k ≡ done ++ drop (16 + 4 * k) o
    unfolding done
    laid_done = sym (append_assoc (take 16 o) (elements_of (take k es)) (drop (16 + 4 * k) o))

    pub laid_length : length (laid es o k) ≡ length o
    laid_length = ap length laid_done ∙ length-append done (drop (16 + 4 * k) o) ∙ omega (arith, length_done, length-drop (16 + 4 * k) o)

    take_laid : take (16 + 4 * k) (laid es o k) ≡ done
    take_laid = rw laid_done (take_at done (drop (16 + 4 * k) o) (16 + 4 * k) length_done)

    drop_laid : drop (16 + 4 * k + 4) (laid es o k) ≡ drop (16 + 4 * (k + 1)) o
    drop_laid =
        let more : 16 + 4 * (k + 1) ≡ 16 + 4 * k + 4 = omega arith in
        sym (drop-drop 4 (16 + 4 * k) (laid es o k))
        ∙ ap (λ (l : List ℕ). drop 4 (drop (16 + 4 * k) l)) laid_done
        ∙ ap (λ (l : List ℕ). drop 4 l) (drop_at done (drop (16 + 4 * k) o) (16 + 4 * k) length_done)
        ∙ drop-drop 4 (16 + 4 * k) o
        ∙ ap (λ (j : ℕ). drop j o) (sym more)

  -- .. and one element more
  pub laid_more : (k : ℕ) (d : Element) (now after : List ℕ) → k < length es → now ≡ laid es o k → after ≡ take (16 + 4 * k) now ++ (bytes_of (word_of (get_or es k d)) ++ drop (16 + 4 * k + 4) now) → after ≡ laid es o (k + 1)
  unfolding done elements_of
  laid_more k d now after few c e =
      let e' : Element = get_or es k d in
      let le : k ≤ length es = omega arith in
      let last : elements_of (take (k + 1) es) ≡ elements_of (take k es) ++ bytes_of (word_of e') = ap elements_of (take_more es k d few) ∙ elements_append (take k es) (e' ∷ []) ∙ ap (λ (l : List ℕ). elements_of (take k es) ++ l) (append-nil (bytes_of (word_of e'))) in
      rw (e, c, take_laid k le, drop_laid k le, last)
      (append_assoc (take 16 o) (elements_of (take k es)) (bytes_of (word_of e') ++ drop (16 + 4 * (k + 1)) o)
      ∙ ap (λ (l : List ℕ). take 16 o ++ l) (sym (append_assoc (elements_of (take k es)) (bytes_of (word_of e')) (drop (16 + 4 * (k + 1)) o))))

pub laid_all : (es : List Element) (o : List ℕ) → laid es o (length es) ≡ take 16 o ++ (elements_of es ++ drop (16 + 4 * length es) o)
laid_all es o = rw take-length refl

module _ (f : Fields) (es : List Element) (o : List ℕ) where
  pub length_header : (n : ℕ) → length (header_of f n) ≡ 16
  unfolding header_of bytes_of
  length_header n = refl

  pub length_message : length (message_of f es) ≡ 16 + 4 * length es
  unfolding message_of
  length_message = length-append (header_of f (length es)) (elements_of es) ∙ omega (arith, length_header (length es), length_elements es)

  pub laid_out_lem : (one two : List ℕ) → 16 + 4 * length es ≤ length o → one ≡ header_of f (length es) ++ drop 16 o → two ≡ take 16 one ++ (elements_of es ++ drop (16 + 4 * length es) one) → two ≡ laid_out f es o
  unfolding laid_out message_of
  laid_out_lem one two room p q =
      let n = length es in
      let first : take 16 one ≡ header_of f n = rw p (take_at (header_of f n) (drop 16 o) 16 (length_header n)) in
      let rest : drop (16 + 4 * n) one ≡ drop (16 + 4 * n) o = sym (drop-drop (4 * n) 16 one) ∙ ap (λ (l : List ℕ). drop (4 * n) l) (rw p (drop_at (header_of f n) (drop 16 o) 16 (length_header n))) ∙ drop-drop (4 * n) 16 o in
      let whole : length (header_of f n ++ elements_of es) ≡ 16 + 4 * n = length_message in
      rw (q, first, rest, le-leb (16 + 4 * length es) (length o) (omega arith), whole) (sym (append_assoc (header_of f n) (elements_of es) (drop (16 + 4 * n) o)))

  pub not_laid : length o < 16 + 4 * length es → o ≡ laid_out f es o
  unfolding laid_out
  not_laid h = rw (lt-leb (16 + 4 * length es) (length o) h) refl

-- what is left of a walk gives the answer of the whole
module _ (i : ℕ) (p : Progress) (left : List Element) (whole : Result Whole Refusal) (same : walked i p left ≡ whole) where
  pub walk_ends : (r : Result Whole Refusal) → length left ≡ 0 → r ≡ ended_at i p → r ≡ whole
  unfolding walked
  walk_ends r none e = go left none same
    where
      go : (es : List Element) → length es ≡ 0 → walked i p es ≡ whole → r ≡ whole
      go [] h w = e ∙ w
      go (x ∷ es) h w = absurd (omega arith)

  module _ (e : Element) (after : List Element) (here : left ≡ e ∷ after) (f : Result Unit Reason) (is : f ≡ fault_of p e) where
    pub walk_stops : (why : Reason) → f ≡ Err why → Err (refusal why i) ≡ whole
    unfolding walked
    walk_stops why k = rw (here, ← is, k) at same

    pub walk_goes_on : f ≡ Ok tt → (q : Progress) → q ≡ advanced p e i → walked (i + 1) q after ≡ whole
    unfolding walked
    walk_goes_on k q g = rw (here, ← is, k, ← g) at same

-- the ways through the writer's decision
module _ (size room : ℕ) where
  pub room_short : (r : Refusal) → room < size → r ≡ refusal Room 0 → Err r ≡ room_for size room
  room_short r h e = rw (lt-ltb room size h, e) refl

  pub room_enough : size ≤ room → Ok size ≡ room_for size room
  room_enough h = rw (le-ltb room size h) refl

module _ (f : Fields) (es : List Element) (room : ℕ) where
  pub write_none : (r : Refusal) → length es ≡ 0 → r ≡ refusal Count 0 → Err r ≡ written_of f es room
  unfolding written_of
  write_none r h e = rw (eq-eqb (length es) 0 h, e) refl

  module _ (some : length es ≡ 0 → ⊥) where
    pub write_many : (r : Refusal) → 240 < length es → r ≡ refusal Count 0 → Err r ≡ written_of f es room
    unfolding written_of
    write_many r h e = rw (ne_eqb (length es) 0 some, lt-ltb 240 (length es) h, e) refl

    module _ (few : length es ≤ 240) where
      pub write_backoff : (r : Refusal) → bad_backoffs f ≡ true → r ≡ refusal Backoff 0 → Err r ≡ written_of f es room
      unfolding written_of
      write_backoff r h e = rw (ne_eqb (length es) 0 some, le-ltb 240 (length es) few, h, e) refl

      module _ (good : bad_backoffs f ≡ false) (w : Result Whole Refusal) (is : w ≡ walked 0 nothing_yet es) where
        pub write_fault : (why : Refusal) → w ≡ Err why → Err why ≡ written_of f es room
        unfolding written_of
        write_fault why h = rw (ne_eqb (length es) 0 some, le-ltb 240 (length es) few, good, sym is ∙ h) refl

        pub write_walked : (v : Whole) (r : Result ℕ Refusal) → w ≡ Ok v → r ≡ room_for (16 + 4 * length es) room → r ≡ written_of f es room
        unfolding written_of
        write_walked v r h b = rw (ne_eqb (length es) 0 some, le-ltb 240 (length es) few, good, sym is ∙ h) b

-- what a message is that is written
pub record Writes (f : Fields) (es : List Element) (room size : ℕ) : Type 0 where
  pub some : 1 ≤ length es
  pub few : length es ≤ 240
  pub backoffs : bad_backoffs f ≡ false
  pub null : ℕ
  pub end : ℕ
  pub walk : walked 0 nothing_yet es ≡ as_whole null end
  pub fits : 16 + 4 * length es ≤ room
  pub sized : size ≡ 16 + 4 * length es

module _ (f : Fields) (es : List Element) (room size : ℕ) where
  sizes : (b : Bool) → ltb room (16 + 4 * length es) ≡ b → cond b (Err (refusal Room 0)) (Ok (16 + 4 * length es)) ≡ Ok size → (16 + 4 * length es ≤ room) × (size ≡ 16 + 4 * length es)
  sizes true p e = absurd (let y : ◌≡◌ {A = ℕ} 0 1 = cc in omega arith)
  sizes false p e = (ltb-false room (16 + 4 * length es) p, cc)

  pub writes : written_of f es room ≡ Ok size → Writes f es room size
  unfolding written_of
  writes e = go (eqb (length es) 0) refl (ltb 240 (length es)) refl (bad_backoffs f) refl (walked 0 nothing_yet es) refl
    where
      go : (z : Bool) → eqb (length es) 0 ≡ z → (b : Bool) → ltb 240 (length es) ≡ b → (c : Bool) → bad_backoffs f ≡ c → (w : Result Whole Refusal) → walked 0 nothing_yet es ≡ w → Writes f es room size
      go true x b p c q w r = let z : ◌≡◌ {A = Result ℕ Refusal} (Err (refusal Count 0)) (Ok size) = (rw x at e) in absurd (let y : ◌≡◌ {A = ℕ} 0 1 = cc in omega arith)
      go false x true p c q w r = let z : ◌≡◌ {A = Result ℕ Refusal} (Err (refusal Count 0)) (Ok size) = (rw (x, p) at e) in absurd (let y : ◌≡◌ {A = ℕ} 0 1 = cc in omega arith)
      go false x false p true q w r = let z : ◌≡◌ {A = Result ℕ Refusal} (Err (refusal Backoff 0)) (Ok size) = (rw (x, p, q) at e) in absurd (let y : ◌≡◌ {A = ℕ} 0 1 = cc in omega arith)
      go false x false p false q (Err why) r = let z : ◌≡◌ {A = Result ℕ Refusal} (Err why) (Ok size) = (rw (x, p, q, r) at e) in absurd (let y : ◌≡◌ {A = ℕ} 0 1 = cc in omega arith)
      go false x false p false q (Ok v) r =
          let both = sizes (ltb room (16 + 4 * length es)) refl (rw (x, p, q, r) at e) in
          record {
            some = one (length es) (eqb-false (length es) 0 x);
            few = ltb-false 240 (length es) p;
            backoffs = q;
            null = v.null;
            end = v.length;
            walk = r;
            fits = both.0;
            sized = both.1;
          }
        where
          one : (n : ℕ) → (n ≡ 0 → ⊥) → 1 ≤ n
          one zero h = absurd (h refl)
          one (suc n) h = omega arith

-- what was decided is done
module _ (f : Fields) (es : List Element) (old : List ℕ) (a : Result ℕ Refusal) (is : a ≡ written_of f es (length old)) where
  pub write_done : (size : ℕ) (new : List ℕ) → a ≡ Ok size → new ≡ laid_out f es old → (Ok size ≡ written_of f es (length old)) × (new ≡ write_into f es old)
  unfolding laid_out
  write_done size new e h =
      let done : Ok size ≡ written_of f es (length old) = sym e ∙ is in
      (done, rw (← done) (h ∙ laid_room))
    where
      laid_room : laid_out f es old ≡ onto (message_of f es) old
      laid_room = rw (le-leb (16 + 4 * length es) (length old) (writes f es (length old) size (sym is ∙ e)).fits) refl

  pub write_refused : (why : Refusal) → a ≡ Err why → (Err why ≡ written_of f es (length old)) × (old ≡ write_into f es old)
  write_refused why e = let done : Err why ≡ written_of f es (length old) = sym e ∙ is in (done, rw (← done) refl)

pub ruleset decided = (room_short, room_enough, write_none, write_many, write_backoff, write_fault, write_walked, said, said_not)
