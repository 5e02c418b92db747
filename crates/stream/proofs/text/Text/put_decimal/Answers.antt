use Rattle.std.proofs.Common.{rules, ◌∙◌}
use Rattle.stream.proofs.Numerals.{decimal_made}
use Rattle.stream.proofs.text.Text.put_decimal.Goals as goal

pub returns : goal.returns
returns c = let d = c.decimal-k.ensures in rw (← (d.digits ∙ decimal_made _ _ (search rules) d.len)) c.put.ensures
