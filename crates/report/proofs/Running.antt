-- One pass over the input: the lines so far and the text of what is left are the whole text.
use mathlib.Core.Path.{◌≡◌, refl, sym, ◌∙◌, ap}
use mathlib.Core.Bool.{Bool, true, false, cond}
use mathlib.Core.Logic.{◌⊎◌, inl, inr}
use mathlib.Core.List.Memᴰ
use mathlib.Core.List.{List, [], ◌∷◌, ◌++◌, append-nil}
use Prim.Native.Nat.{ℕ, zero, suc, ◌+◌, ◌-◌, ◌≤◌, ◌<◌}
use native.Mathlib.Nat.{zero-add}
use native.Mathlib.Omega.{arith}
use lib.Dec.{ltb, eqb}
use lib.ListN.{length, drop, length-append, length-drop}
use borrow.Author.Tests.{eqb-true, eqb-false, ne_eqb, le-leb, lt-ltb, le-ltb}
use Rattle.slots.specs.declared.span.Span.{Span}
use Rattle.slots.specs.declared.span.Span.TheVariants.{Nothing}
use Rattle.std.specs.Prelude.{Option}
use Rattle.std.specs.Option.{unwrap_or}
use Rattle.slots.specs.Span.{Described, added, added_all, added_to, span_of}
use Rattle.slots.proofs.Spanning.{◌∈◌, Every, running_is_span, fit_4096}
use Rattle.report.specs.declared.bodies.Row.{Row}
use Rattle.std.specs.Prelude.{Result, Ok, Err}
use Rattle.rules.specs.declared.refusal.Reason.{Reason}
use Rattle.rules.specs.declared.refusal.Reason.TheVariants.{Room}
use Rattle.rules.specs.Refusals.{refusal}
use Rattle.rules.specs.declared.refusal.Refusal.{Refusal}
use Rattle.report.specs.declared.lines.Lines.{Lines}
use Rattle.report.specs.Bodies.{Body, size_of, next_of, and_more, bodies_from, bodies_of, maps_in}
use Rattle.report.specs.Report.{refused_input, enough, report_of, reported_of, report_into}
use Rattle.report.specs.Text.{map_line, refused_line, span_line, lines_from, text_of, onto}
use Rattle.report.specs.Scan.{HasRoom, Put}
use Rattle.report.proofs.Next.{Good, next_good}
use Rattle.report.proofs.Sizes.{Bytes, text_short}
use Rattle.report.proofs.Facts.{bodies_none, bodies_all}
use Rattle.report.proofs.Filling.{Filling, fill_begins, fill_room, fill_put, fill_end, room_first, room_left, put_then}

bodies_next : (k : ℕ) (s : List ℕ) → length s ≡ suc k → bodies_of s ≡ and_more (next_of s) (λ n. bodies_from k (drop n s))
unfolding bodies_from
bodies_next k s h = ap (λ (j : ℕ). bodies_from j s) h ∙ rw (ne_eqb (length s) 0 (λ z. omega arith)) refl

-- every MAP is short enough for the running span
abbrev Short : Described → Type 0
Short m = m.length ≤ 4096

maps_short : (k : ℕ) (s : List ℕ) → Every Short (maps_in (bodies_from k s))
unfolding bodies_from maps_in
maps_short zero s = λ m i. absurd (Memᴰ.not-nil i)
maps_short (suc k) s = go (eqb (length s) 0) (next_of s) refl (λ t. maps_short k t)
  where
    go : (t : Bool) (b : Body) → next_of s ≡ b → ((l : List ℕ) → Every Short (maps_in (bodies_from k l))) → Every Short (maps_in (cond t [] (and_more b (λ n. bodies_from k (drop n s)))))
    go true b e more m i = absurd (Memᴰ.not-nil i)
    go false (Err why) e more m i = absurd (Memᴰ.not-nil i)
    go false (Ok row) e more m i = pick (Memᴰ.cases_cons i)
      where
        pick : (m ≡ record { start = row.start.0; length = row.length }) ⊎ (m ∈ maps_in (bodies_from k (drop (size_of row.n) s))) → Short m
        pick (inl f) = rw f (next_good s row e).short
        pick (inr j) = more (drop (size_of row.n) s) m j

-- the running span is the definition's
span_running : (s : List ℕ) → added_all 32 Nothing (maps_in (bodies_of s)) ≡ span_of 32 (maps_in (bodies_of s))
span_running s = running_is_span 32 (omega arith) (maps_in (bodies_of s)) (fit_4096 (maps_in (bodies_of s)) (maps_short (length s) s))

-- what bodies add to the report, the first with number i, after MAPs with span p
abbrev pub rest_of : ℕ → Span → List Body → List ℕ
rest_of i p bs = lines_from i bs ++ span_line (added_all 32 p (maps_in bs))

rest_bad : (i : ℕ) (p : Span) (why : Reason) → rest_of i p (Err why ∷ []) ≡ refused_line i why ++ span_line p
unfolding lines_from maps_in added_all
rest_bad i p why = refl

-- .. and all of them make it
text_running : (s : List ℕ) → text_of s ≡ rest_of 0 Nothing (bodies_of s)
unfolding text_of
text_running s = rw (← span_running s) refl

-- left is still to be read, number how many MAPs came before it, span their span
pub record Going (input left : List ℕ) (number : ℕ) (span : Span) (before now : Lines) : Type 0 where
  pub few : number + length left ≤ 65536
  pub fill : Filling (lines_from 0 (bodies_of input)) (lines_from number (bodies_of left)) before now
  pub spans : added_all 32 span (maps_in (bodies_of left)) ≡ span_of 32 (maps_in (bodies_of input))

pub going_begins : (input : List ℕ) (l : Lines) → length input ≤ 65536 → HasRoom l (lines_from 0 (bodies_of input)) → (span : Span) → span ≡ Nothing → Going input input 0 span l l
going_begins input l few h span e =
    record {
      few = omega arith;
      fill = fill_begins (lines_from 0 (bodies_of input)) l h;
      spans = rw e (span_running input);
    }

module _ (input left : List ℕ) (number : ℕ) (span : Span) (before now : Lines) (g : Going input left number span before now) where
  abbrev whole : List ℕ
  whole = lines_from 0 (bodies_of input)

  module _ (empty : Bool) (tested : empty ≡ eqb (length left) 0) (not : empty ≡ false) (b : Body) (read : b ≡ next_of left) where
    more : 0 < length left
    more = let h = eqb-false (length left) 0 (sym tested ∙ not) in omega arith

    unrolled : bodies_of left ≡ and_more b (λ n. bodies_from (length left - 1) (drop n left))
    unrolled = let one : length left ≡ suc (length left - 1) = omega (arith, more) in rw read (bodies_next (length left - 1) left one)

    module _ (row : Row) (is : b ≡ Ok row) where
      abbrev rest : List ℕ
      rest = drop (size_of row.n) left

      good : Good left row
      good = next_good left row (sym read ∙ is)

      parted : bodies_of left ≡ Ok row ∷ bodies_of rest
      parted =
          let all : bodies_from (length left - 1) rest ≡ bodies_of rest = bodies_all (length left - 1) rest (omega (arith, length-drop (size_of row.n) left)) in
          rw (← all) (rw is at unrolled)

      mapped : Filling whole (map_line number row ++ lines_from (number + 1) (bodies_of rest)) before now
      unfolding lines_from
      mapped = rw parted at g.fill

      pub map_room : HasRoom now (map_line number row)
      map_room = fill_room whole (map_line number row) (lines_from (number + 1) (bodies_of rest)) before now mapped

      pub map_fits : size_of row.n ≤ length left
      map_fits = good.inside

      pub map_less : (left' : List ℕ) → left' ≡ rest → length left' < length left
      map_less left' e = rw e (omega (arith, length-drop (size_of row.n) left, more))

      pub map_next : (left' : List ℕ) → left' ≡ rest → (after : Lines) → Put (map_line number row) now after → (a : Option Span) → a ≡ added_to 32 span row.start.0 row.length → (span' : Span) → span' ≡ unwrap_or a span → Going input left' (number + 1) span' before after
      unfolding maps_in added_all
      map_next left' same after p a e span' got =
          let taken : span' ≡ added 32 span row.start.0 row.length = got ∙ rw (e, le-leb row.length 4096 good.short) refl in
          record {
            few = rw same (omega (arith, g.few, good.inside, length-drop (size_of row.n) left));
            fill = rw same (fill_put whole (map_line number row) (lines_from (number + 1) (bodies_of rest)) before now mapped after p);
            spans = rw (same, taken) (rw parted at g.spans);
          }

    module _ (why : Reason) (is : b ≡ Err why) where
      last : bodies_of left ≡ Err why ∷ []
      last = rw is at unrolled

      refused : Filling whole (refused_line number why ++ []) before now
      unfolding lines_from
      refused = rw append-nil (rw last at g.fill)

      pub bad_room : HasRoom now (refused_line number why)
      bad_room = fill_room whole (refused_line number why) [] before now refused

      pub bad_span : span ≡ span_of 32 (maps_in (bodies_of input))
      unfolding maps_in added_all
      bad_span = rw last at g.spans

      pub bad_done : (after : Lines) → Put (refused_line number why) now after → Put (lines_from 0 (bodies_of input)) before after
      bad_done after p = fill_end whole before after (fill_put whole (refused_line number why) [] before now refused after p)

  module _ (empty : Bool) (tested : empty ≡ eqb (length left) 0) (is : empty ≡ true) where
    none : bodies_of left ≡ []
    none = bodies_none (length left) left (eqb-true (length left) 0 (sym tested ∙ is))

    pub none_span : span ≡ span_of 32 (maps_in (bodies_of input))
    unfolding maps_in added_all
    none_span = rw none at g.spans

    pub none_done : Put (lines_from 0 (bodies_of input)) before now
    unfolding lines_from
    none_done = fill_end whole before now (rw none at g.fill)

-- the ways through the whole
module _ (s o : List ℕ) (room : ℕ) (is : room ≡ enough (length s)) where
  pub report_small : (r : Refusal) → length o < room → r ≡ refusal Room 0 → (◌≡◌ {A = Result ℕ Refusal} (Err r) (reported_of s (length o))) × (o ≡ report_into s o)
  unfolding reported_of report_into
  report_small r h e = rw (lt-ltb (length o) (enough (length s)) (omega arith), e) (refl, refl)

  module _ (fits : room ≤ length o) (l : Lines) (out : l.out.now ≡ o) (empty : l.used ≡ 0) where
    told : (m : Lines) → Put (report_of s) l m → (◌≡◌ {A = Result ℕ Refusal} (Ok m.used) (reported_of s (length o))) × (m.out.now ≡ report_into s o)
    unfolding reported_of report_into
    told m p =
        let long : m.used ≡ length (report_of s) = omega (arith, empty, p.used) in
        let put : m.out.now ≡ onto (report_of s) o = p.out ∙ rw (empty, out, zero-add) refl in
        rw (le-ltb (length o) (enough (length s)) (omega arith)) (ap Ok long, put)

    pub report_long : 65536 < length s → (m : Lines) → Put refused_input l m → (◌≡◌ {A = Result ℕ Refusal} (Ok m.used) (reported_of s (length o))) × (m.out.now ≡ report_into s o)
    unfolding report_of
    report_long h m p = told m (rw (lt-ltb 65536 (length s) h) p)

    -- the bodies' lines, then the span's
    module _ (short : length s ≤ 65536) (bytes : Bytes s) where
      abbrev bodies : List ℕ
      bodies = lines_from 0 (bodies_of s)

      abbrev line : List ℕ
      line = span_line (span_of 32 (maps_in (bodies_of s)))

      whole_room : HasRoom l (bodies ++ line)
      unfolding text_of
      whole_room = let h = text_short s bytes short in omega (arith, h, ap length out)

      pub bodies_room : HasRoom l (lines_from 0 (bodies_of s))
      bodies_room = room_first bodies line l whole_room

      module _ (k : Lines) (p : Put (lines_from 0 (bodies_of s)) l k) (span : Span) (over : span ≡ span_of 32 (maps_in (bodies_of s))) where
        pub span_room : HasRoom k (span_line span)
        span_room = rw over (room_left bodies line l k whole_room p)

        pub report_whole : (m : Lines) → Put (span_line span) k m → (◌≡◌ {A = Result ℕ Refusal} (Ok m.used) (reported_of s (length o))) × (m.out.now ≡ report_into s o)
        unfolding report_of text_of
        report_whole m q = told m (rw (le-ltb 65536 (length s) short) (put_then bodies line l k whole_room p m (rw over at q)))

-- the length that was answered lies within the lent bytes
pub report_inside : (s o : List ℕ) (r : Result ℕ Refusal) (n : ℕ) (out : List ℕ) → r ≡ reported_of s (length o) → r ≡ Ok n → out ≡ report_into s o → n ≤ length out
unfolding reported_of report_into
report_inside s o r n out is told holds = go (ltb (length o) (enough (length s))) refl
  where
    go : (b : Bool) → ltb (length o) (enough (length s)) ≡ b → n ≤ length out
    go true e = let z : ◌≡◌ {A = Result ℕ Refusal} (Err (refusal Room 0)) (Ok n) = rw e at (sym is ∙ told) in let y : ◌≡◌ {A = ℕ} 0 1 = cc in absurd (omega arith)
    go false e =
        let z : ◌≡◌ {A = Result ℕ Refusal} (Ok (length (report_of s))) (Ok n) = rw e at (sym is ∙ told) in
        let sized : length (report_of s) ≡ n = cc in
        let whole : out ≡ onto (report_of s) o = rw e at holds in
        omega (arith, ap length whole, length-append (report_of s) (drop (length (report_of s)) o))
