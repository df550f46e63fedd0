-- The goals of `legs::add_next` that no tactic closes.
use Rattle.std.proofs.Common.{arith}
use Rattle.nr_audit.proofs.legs.add_next.Goals as goal

pub run_up_to-requires-clause-behind : goal.run_up_to-requires-clause-behind
run_up_to-requires-clause-behind g c = λ κs within. record { from = c.args.below; most = omega arith; places = c.requires.places }
