use Rattle.headend.proofs.Checks.{request_refused, request_taken, few_held}
use Rattle.headend.proofs.record.Headend.request.Goals as goal

pub returns-in-Err : goal.returns-in-Err
returns-in-Err c = search request_refused

pub joined-requires : goal.joined-requires
joined-requires c = search few_held

pub returns-in-Ok : goal.returns-in-Ok
returns-in-Ok c = search request_taken
