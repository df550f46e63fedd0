-- The goals of `making::drop_output` that no tactic closes.
use Rattle.nr_promises.proofs.Outputs.{set_with}
use Rattle.nr_promises.specs.Making.{body_without_output}
use Rattle.nr_promises.proofs.making.drop_output.Goals as goal

pub returns : goal.returns
returns c = set_with body_without_output c.vec_mut.result.now.items c.args.made.now c.args.at c.index_mut.result.now c.pop_output.new.body c.vec_mut.ensures.value c.index_mut.ensures.value c.pop_output.ensures
