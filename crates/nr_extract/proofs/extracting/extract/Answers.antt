-- The goals of `extracting::extract` that no tactic closes.
use Rattle.std.proofs.Common.{arith}
use Rattle.nr_extract.proofs.extracting.extract.Goals as goal

pub run_up_to-requires-clause-behind : goal.run_up_to-requires-clause-behind
run_up_to-requires-clause-behind g c = λ κs within. record { from = 0; most = omega arith; places = c.requires.first }
