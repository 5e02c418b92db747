use mathlib.Core.Path.{refl}
use Rattle.writer.specs.Writing.{header_of, bytes_of}
use Rattle.writer.proofs.writing.header_of.Goals as goal

pub returns : goal.returns
unfolding header_of bytes_of
returns c = rw (c.copy_from_slice.ensures.after, c.copy_from_slice-2.ensures.after, c.copy_from_slice-3.ensures.after, c.copy_from_slice-4.ensures.after, c.to_be_bytes.ensures, c.to_be_bytes-2.ensures) refl
