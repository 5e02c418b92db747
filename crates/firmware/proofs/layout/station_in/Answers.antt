use Rattle.message.proofs.Ways.{said}
use Rattle.firmware.specs.Layout.{phase_of}
use mathlib.Core.Path.{◌∙◌, ap}
use Rattle.firmware.proofs.Ways.{channel_fits, count_fits, as_station, no_station, a_station}
use Rattle.firmware.proofs.layout.station_in.Goals as goal

pub returns-then-out_of_range : goal.returns-then-out_of_range
returns-then-out_of_range c = no_station _ (said c.out_of_range.ensures c.if-out_of_range.true)

pub overflow_cast-result : goal.overflow_cast-result
overflow_cast-result c = record { fits = channel_fits _ (said c.out_of_range.ensures c.if-out_of_range.false) }

pub overflow_cast-result-2 : goal.overflow_cast-result-2
overflow_cast-result-2 c = record { fits = count_fits _ (said c.out_of_range.ensures c.if-out_of_range.false) }

pub returns : goal.returns
returns c = a_station c.args.rec.now (said c.out_of_range.ensures c.if-out_of_range.false) (as_station c.args.rec.now c.remembered.ensures (c.from.ensures ∙ ap phase_of c.parts_in.ensures))
