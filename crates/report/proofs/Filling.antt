-- Text put into lent bytes piece by piece: what is put so far and what is still to come are the whole.
use mathlib.Core.Path.{◌≡◌, refl, sym, ◌∙◌, ap}
use mathlib.Core.List.{List, [], ◌++◌, append_assoc, append-nil}
use Prim.Native.Nat.{ℕ, ◌+◌, ◌≤◌}
use native.Mathlib.Nat.{add-zero}
use native.Mathlib.Omega.{arith}
use lib.ListN.{length, take, drop, take-append-drop, length-append, length-drop}
use lib.Seq.{take_at, drop_at, drop-drop, length-take-le}
use Rattle.report.specs.declared.lines.Lines.{Lines}
use Rattle.report.specs.Scan.{put_at, HasRoom, Put}

module _ (o : List ℕ) (used : ℕ) (a : List ℕ) (room : used + length a ≤ length o) where
  front : List ℕ
  front = take used o ++ a

  sized : length front ≡ used + length a
  unfolding front
  sized = length-append (take used o) a ∙ omega (arith, length-take-le used o (omega arith))

  split : put_at used a o ≡ front ++ drop (used + length a) o
  unfolding front
  split = sym (append_assoc (take used o) a (drop (used + length a) o))

  put_size : length (put_at used a o) ≡ length o
  put_size = ap length split ∙ length-append front (drop (used + length a) o) ∙ omega (arith, sized, length-drop (used + length a) o)

  -- one text behind the other is both at once
  put_twice : (b : List ℕ) → put_at (used + length a) b (put_at used a o) ≡ put_at used (a ++ b) o
  unfolding front
  put_twice b =
      let before : take (used + length a) (put_at used a o) ≡ front = rw split (take_at front (drop (used + length a) o) (used + length a) sized) in
      let behind : drop (used + length a) (put_at used a o) ≡ drop (used + length a) o = rw split (drop_at front (drop (used + length a) o) (used + length a) sized) in
      let rest : drop (used + length a + length b) (put_at used a o) ≡ drop (used + length a + length b) o =
      sym (drop-drop (length b) (used + length a) (put_at used a o)) ∙ ap (λ (l : List ℕ). drop (length b) l) behind ∙ drop-drop (length b) (used + length a) o in
      let long : used + length a + length b ≡ used + length (a ++ b) = omega (arith, length-append a b) in
      rw (before, rest, long) (simp append_assoc)

pub room_first : (a b : List ℕ) (l : Lines) → HasRoom l (a ++ b) → HasRoom l a
room_first a b l room = omega (arith, length-append a b)

module _ (a b : List ℕ) (l m : Lines) (room : HasRoom l (a ++ b)) (p : Put a l m) where
  pub room_left : HasRoom m b
  room_left = omega (arith, length-append a b, room, p.used, ap length p.out, put_size l.out.now l.used a (room_first a b l room))

  pub put_then : (n : Lines) → Put b m n → Put (a ++ b) l n
  put_then n q = record {
    same = q.same ∙ p.same;
    used = omega (arith, length-append a b, p.used, q.used);
    out = q.out ∙ rw (p.used, p.out) (put_twice l.out.now l.used a (room_first a b l room) b);
  }

-- of the whole text, rest is still to come
pub record Filling (whole rest : List ℕ) (before now : Lines) : Type 0 where
  pub made : List ℕ
  pub put : Put made before now
  pub all : made ++ rest ≡ whole
  pub fits : HasRoom before whole

pub fill_begins : (text : List ℕ) (l : Lines) → HasRoom l text → Filling text text l l
fill_begins text l h = record {
  made = [];
  put = record { same = refl; used = omega arith; out = sym (take-append-drop l.used l.out.now) ∙ rw add-zero refl };
  all = refl;
  fits = h;
}

module _ (whole a rest : List ℕ) (before now : Lines) (f : Filling whole (a ++ rest) before now) where
  room : HasRoom before (f.made ++ (a ++ rest))
  room = rw f.all f.fits

  pub fill_room : HasRoom now a
  fill_room = omega (arith, room_left f.made (a ++ rest) before now room f.put, length-append a rest)

  pub fill_put : (after : Lines) → Put a now after → Filling whole rest before after
  fill_put after p = record {
    made = f.made ++ a;
    put = put_then f.made a before now (omega (arith, room, length-append f.made (a ++ rest), length-append f.made a, length-append a rest)) f.put after p;
    all = append_assoc f.made a rest ∙ f.all;
    fits = f.fits;
  }

pub fill_end : (whole : List ℕ) (before now : Lines) → Filling whole [] before now → Put whole before now
fill_end whole before now f = rw (← f.all, append-nil f.made) f.put
