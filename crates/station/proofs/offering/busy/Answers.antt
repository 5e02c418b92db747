use Rattle.station.proofs.Ways.{busy_idle, busy_other}
use Rattle.station.proofs.offering.busy.Goals.{in-Idle, in_default}
use Rattle.station.proofs.offering.busy.Goals as goal

pub returns : goal.returns
returns c = elim c.match-matches.branch [
  | in-Idle w ↦ rw w.matches-is (busy_idle _ w.in-Idle.is)
  | in_default w ↦ rw w.matches-is (busy_other _ w.in_default.not-Idle)
]
