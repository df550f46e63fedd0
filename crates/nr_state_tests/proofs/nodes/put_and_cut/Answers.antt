-- The goals of `nodes::put_and_cut` that no tactic closes.
use Rattle.std.proofs.Common.{Some}
use Rattle.nr_state_tests.proofs.nodes.put_and_cut.Goals as goal

pub find-requires-2 : goal.find-requires-2
find-requires-2 c = c.put-2.ensures.kept.root (Some c.in_ok-one.one) c.in_ok-one.ensures.put.root
