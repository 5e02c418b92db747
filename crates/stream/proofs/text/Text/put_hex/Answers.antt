use Rattle.std.proofs.Common.{rules, ◌∙◌}
use Rattle.stream.proofs.Numerals.{hex_made}
use Rattle.stream.proofs.text.Text.put_hex.Goals as goal

pub returns : goal.returns
returns c = let d = c.hex-k.ensures in rw (← (d.digits ∙ hex_made _ _ (search rules) d.len)) c.put.ensures
