use Rattle.lent.proofs.Tabled.{fitting}
use Rattle.lent.proofs.table.table_fault.Goals as goal

pub returns-then-records-gt-LARGEST_TABLE : goal.returns-then-records-gt-LARGEST_TABLE
returns-then-records-gt-LARGEST_TABLE c = search fitting

pub returns-then-draws-records : goal.returns-then-draws-records
returns-then-draws-records c = search fitting

pub returns-then-places-records : goal.returns-then-places-records
returns-then-places-records c = search fitting

pub returns : goal.returns
returns c = search fitting
