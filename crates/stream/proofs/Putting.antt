-- A text put behind the used bytes, or left out.
use mathlib.Core.Path.{◌≡◌, refl}
use mathlib.Core.List.{List}
use Prim.Native.Nat.{ℕ, ◌+◌, ◌-◌, ◌≤◌, ◌<◌}
use native.Mathlib.Omega.{arith}
use lib.ListN.{length}
use lib.Seq.{drop-drop}
use borrow.Author.Tests.{le-leb, lt-leb}
use borrow.Rule.Slice.PartMut.{put_mid}
use Rattle.stream.specs.Text.{bytes_with, used_with, too_many}

module _ (used : ℕ) (text o : List ℕ) where
  pub left_out : length o < used + length text → (o ≡ bytes_with used text o) × (too_many ≡ used_with used text o)
  unfolding bytes_with used_with
  left_out h = simp (lt-leb (used + length text) (length o) h) (refl, refl)

  -- the part behind the used bytes, as long as the text, holds it
  pub put_in : (part : List ℕ) → used ≤ length o → length text ≤ length o - used → part ≡ text → (put_mid used (used + length text - used) o part ≡ bytes_with used text o) × (used + length text ≡ used_with used text o)
  unfolding bytes_with used_with
  put_in part h l e =
      let size : used + length text - used ≡ length text = omega arith in
      simp (le-leb (used + length text) (length o) (omega arith))
      (rw (e, size, drop-drop (length text) used o) refl, refl)

-- once a text had no room none has, and the bytes stay
pub stays_too_many : (text o : List ℕ) → length o < too_many → (o ≡ bytes_with too_many text o) × (too_many ≡ used_with too_many text o)
stays_too_many text o h = left_out too_many text o (omega arith)
