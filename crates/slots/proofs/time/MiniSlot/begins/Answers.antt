use Rattle.std.proofs.Common.{rules}
use Rattle.slots.proofs.Converting.{numbered, begins_small, begins_large, counts_fit, count_fits, begins_at_lem}
use Rattle.slots.proofs.time.MiniSlot.begins.Goals as goal

pub returns-then-m-lt-SMALLEST_M : goal.returns-then-m-lt-SMALLEST_M
returns-then-m-lt-SMALLEST_M c = numbered _ _ _ (begins_small _ _ c.if-m-lt-SMALLEST_M.true)

pub returns-then-m-gt-LARGEST_M : goal.returns-then-m-gt-LARGEST_M
returns-then-m-gt-LARGEST_M c = numbered _ _ _ (begins_large _ _ c.if-m-gt-LARGEST_M.true)

pub overflow_mul-count : goal.overflow_mul-count
overflow_mul-count c = record { fits = counts_fit _ (search rules) _ (search rules) }

pub overflow_mul-count-2 : goal.overflow_mul-count-2
overflow_mul-count-2 c = record { fits = count_fits _ (search rules) _ (search rules) _ (search rules) }

pub returns : goal.returns
returns c = numbered _ _ _ (begins_at_lem _ (search rules) _ (search rules))
