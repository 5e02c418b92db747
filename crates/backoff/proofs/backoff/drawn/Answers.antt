use Rattle.backoff.proofs.Ways.{draw_ways}
use Rattle.backoff.proofs.backoff.drawn.Goals as goal

pub returns-then-exponent-gt-LARGEST_EXPONENT : goal.returns-then-exponent-gt-LARGEST_EXPONENT
returns-then-exponent-gt-LARGEST_EXPONENT c = search draw_ways

pub nonzero_rem-result : goal.nonzero_rem-result
nonzero_rem-result c = search draw_ways

pub returns : goal.returns
returns c = search draw_ways
