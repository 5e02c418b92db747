use Rattle.std.proofs.Common.{rules}
use Rattle.lent.proofs.Forties.{inside}
use Rattle.lent.proofs.forty.hear_forty.Goals as goal

pub offset_bounds-all-from : goal.offset_bounds-all-from
offset_bounds-all-from c = let w = inside c.part_of-from.result c.args.first c.args.count c.part_of-from.ensures in search rules

pub slice_bounds-hear_table-count : goal.slice_bounds-hear_table-count
slice_bounds-hear_table-count c = (inside c.part_of-from.result c.args.first c.args.count c.part_of-from.ensures).0

pub slice_bounds-all-start : goal.slice_bounds-all-start
slice_bounds-all-start c = let w = inside c.part_of-from.result c.args.first c.args.count c.part_of-from.ensures in search rules

pub slice_bounds-all-end : goal.slice_bounds-all-end
slice_bounds-all-end c = let w = inside c.part_of-from.result c.args.first c.args.count c.part_of-from.ensures in search rules
