-- The goals of `merging::remade_root` that no tactic closes.
use Rattle.nr_remake.proofs.Changed.{changed_root}
use Rattle.nr_remake.proofs.merging.remade_root.Goals as goal

pub returns-clause-changed : goal.returns-clause-changed
returns-clause-changed c = changed_root c.args.kept.now c.args.new.now c.inner.result.now c.exact_root.result c.inner.ensures c.exact_root.ensures
