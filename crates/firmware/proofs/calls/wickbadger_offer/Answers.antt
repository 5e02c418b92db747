use Rattle.std.proofs.Common.{rules}
use Rattle.firmware.proofs.Ways.{offer_said, offer_put}
use Rattle.firmware.proofs.calls.wickbadger_offer.Goals as goal

pub returns : goal.returns
returns c = rw (← offer_said c.args.rec.now c.args.size, ← offer_put c.args.rec.now c.args.size) (search rules)
