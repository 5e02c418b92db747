use Prim.Native.Nat.{min, ◌≤◌}
use native.Mathlib.Omega.{arith}
use lib.ListN.{length}
use lib.Seq.{length-take-le}
use Rattle.headend.proofs.Scans.{take_listed}
use Rattle.headend.specs.Requests.{held_of, spare}
use Rattle.headend.proofs.record.Headend.held_requests.Goals as goal

pub returns : goal.returns
unfolding held_of
returns c =
    let few : min c.args.self.now.held 64 ≤ length c.args.self.now.requests = omega arith in
    record {
      held = rw c.min-n.ensures (take_listed c.args.self.now.requests spare (min c.args.self.now.held 64) few);
      few = rw c.min-n.ensures (omega (arith, length-take-le (min c.args.self.now.held 64) c.args.self.now.requests few));
    }
