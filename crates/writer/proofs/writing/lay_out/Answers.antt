use mathlib.Core.List.{◌++◌}
use mathlib.Core.Path.{◌≡◌}
use native.Mathlib.Omega.{arith}
use Rattle.writer.proofs.Stores.{not_laid, laid_out_lem}
use Rattle.writer.specs.Writing.{header_of}
use lib.ListN.{length, drop}
use Rattle.writer.proofs.writing.lay_out.Goals as goal

pub returns-then-out-lt16 : goal.returns-then-out-lt16
returns-then-out-lt16 c = not_laid _ _ _ (omega arith)

pub returns-then-out-n : goal.returns-then-out-n
returns-then-out-n c = not_laid _ _ _ (omega arith)

pub returns : goal.returns
returns c =
    let a = c.args in
    let first : c.copy_from_slice.new.self ++ drop 16 a.out.now ≡ header_of a.fields (length a.elements.now) ++ drop 16 a.out.now = rw (c.copy_from_slice.ensures.after, c.header_of-header.ensures) in
    laid_out_lem a.fields a.elements.now a.out.now _ _ (omega arith) first c.put_elements.ensures
