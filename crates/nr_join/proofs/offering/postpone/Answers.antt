-- The goals of `offering::postpone` that no tactic closes.
use Rattle.nr_join.proofs.Inputs.{distinct_inputs, unawaited_inputs}
use Rattle.nr_join.proofs.offering.postpone.Goals as goal

pub add_postponed-requires-clause-distinct : goal.add_postponed-requires-clause-distinct
add_postponed-requires-clause-distinct g c = distinct_inputs c.args.state.now.world c.args.receipt c.requires.free

pub add_postponed-requires-clause-inputs : goal.add_postponed-requires-clause-inputs
add_postponed-requires-clause-inputs g c = unawaited_inputs c.args.state.now.world c.args.receipt c.requires.free
