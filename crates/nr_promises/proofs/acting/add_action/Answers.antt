-- The goals of `acting::add_action` that no tactic closes.
use Rattle.nr_promises.proofs.Outputs.{set_with}
use Rattle.nr_promises.specs.Book.{body_with_action}
use Rattle.nr_promises.proofs.acting.add_action.Goals as goal

pub returns-clause-added : goal.returns-clause-added
returns-clause-added c = set_with (body_with_action c.args.action) c.vec_mut.result.now.items c.args.made.now c.args.at c.index_mut.result.now c.append_action.new.body c.vec_mut.ensures.value c.index_mut.ensures.value c.in_ok-append_action.ensures.added
