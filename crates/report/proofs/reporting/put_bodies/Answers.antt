use native.Mathlib.Omega.{arith}
use Rattle.message.proofs.Parting.{part_rest}
use Rattle.report.proofs.Running.{going_begins, map_room, map_fits, map_less, map_next, bad_room, bad_span, bad_done, none_span, none_done}
use Rattle.report.proofs.reporting.put_bodies.Goals as goal

pub loop-left-init : goal.loop-left-init
loop-left-init c = search going_begins

pub map-requires : goal.map-requires
map-requires c = search map_room

pub overflow_add-number : goal.overflow_add-number
overflow_add-number c = omega (arith, c.loop-left.invariant.few)

pub slice_bounds-left-count : goal.slice_bounds-left-count
slice_bounds-left-count c = search map_fits

pub slice_bounds-left-start : goal.slice_bounds-left-start
slice_bounds-left-start c = search map_fits

pub loop-left-smaller : goal.loop-left-smaller
loop-left-smaller c = search (map_less, part_rest)

pub loop-left-preserved : goal.loop-left-preserved
loop-left-preserved c = search (map_next, part_rest)

pub refused-requires : goal.refused-requires
refused-requires c = search bad_room

pub returns-in-Err : goal.returns-in-Err
returns-in-Err c = record { span = search bad_span; lines = search bad_done }

pub returns : goal.returns
returns c = record { span = search none_span; lines = search none_done }
