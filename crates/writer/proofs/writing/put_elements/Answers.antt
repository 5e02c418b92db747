use mathlib.Core.Path.{◌≡◌, refl, ap, ◌∙◌}
use Prim.Native.Nat.{◌+◌, ◌-◌, ◌*◌}
use Rattle.writer.specs.Writing.{bytes_of}
use native.Mathlib.Omega.{arith}
use lib.ListN.{length}
use lib.Seq.{drop-drop}
use Rattle.writer.proofs.Stores.{laid, laid_none, laid_more, laid_all}
use Rattle.writer.proofs.writing.put_elements.Goals as goal

pub loop-i-init : goal.loop-i-init
loop-i-init c = laid_none _ _ c.requires

pub loop-i-preserved : goal.loop-i-preserved
unfolding bytes_of
loop-i-preserved c =
    let four : 16 + 4 * c.loop-i.i + 4 - (16 + 4 * c.loop-i.i) ≡ 4 = omega arith in
    laid_more _ _ c.requires c.loop-i.i (record { sid = 0; iuc = 0; offset = 0 }) c.loop-i.out _ c.loop-i-test.true c.loop-i.invariant (rw (c.copy_from_slice.ensures.after, c.to_be_bytes.ensures, c.word_of.ensures, four, drop-drop 4 (16 + 4 * c.loop-i.i) c.loop-i.out) refl)

pub returns : goal.returns
returns c =
    let all : c.loop-i.i ≡ length c.args.elements.now = omega arith in
    c.loop-i.invariant ∙ ap (laid c.args.elements.now c.args.out.now) all ∙ laid_all _ _
