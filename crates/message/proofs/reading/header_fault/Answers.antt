use Rattle.message.proofs.Ways.{header_ways}
use Rattle.message.proofs.reading.header_fault.Goals as goal

pub returns-then-bytes-lt16 : goal.returns-then-bytes-lt16
returns-then-bytes-lt16 c = search header_ways

pub returns-then-n-eq0 : goal.returns-then-n-eq0
returns-then-n-eq0 c = search header_ways

pub returns-then-n-gt-MOST_ELEMENTS : goal.returns-then-n-gt-MOST_ELEMENTS
returns-then-n-gt-MOST_ELEMENTS c = search header_ways

pub returns-then-bytes-n : goal.returns-then-bytes-n
returns-then-bytes-n c = search header_ways

pub returns-then-bad_backoffs_in : goal.returns-then-bad_backoffs_in
returns-then-bad_backoffs_in c = search header_ways

pub returns : goal.returns
returns c = search header_ways
