use Rattle.lent.proofs.Tabled.{as_placed}
use Rattle.lent.proofs.table.heard.Goals as goal

pub returns : goal.returns
returns c = as_placed c.hear-h.ensures c.number_in.ensures
