-- How the code puts the text into the lent bytes, for what private functions promise: no public promise cites this.
use Rattle.std.specs.Prelude.{◌≡◌, ℕ, ◌+◌, ◌≤◌, List, ◌++◌, length, take, drop}
use Rattle.report.specs.declared.lines.Lines.{Lines}

-- text put over the bytes from a place on
abbrev pub put_at : ℕ → List ℕ → List ℕ → List ℕ
put_at used text o = take used o ++ (text ++ drop (used + length text) o)

abbrev pub HasRoom : Lines → List ℕ → Type 0
HasRoom lines text = lines.used + length text ≤ length lines.out.now

-- text put behind what is used, in the same lent bytes
pub record Put (text : List ℕ) (before after : Lines) : Type 0 where
  pub same : after.out.ghost_name ≡ before.out.ghost_name
  pub used : after.used ≡ before.used + length text
  pub out : after.out.now ≡ put_at before.used text before.out.now
