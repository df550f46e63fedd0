-- The goals of `making::add_output` that no tactic closes.
use Rattle.nr_promises.proofs.Outputs.{set_with}
use Rattle.nr_promises.specs.Book.{body_with_output}
use Rattle.nr_promises.proofs.making.add_output.Goals as goal

pub returns-clause-added : goal.returns-clause-added
returns-clause-added c = set_with (body_with_output c.args.output) c.vec_mut.result.now.items c.args.made.now c.args.at c.index_mut.result.now c.append_output.new.body c.vec_mut.ensures.value c.index_mut.ensures.value c.in_ok-append_output.ensures.added
