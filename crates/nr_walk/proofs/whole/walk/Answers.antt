-- The goals of `whole::walk` that no tactic closes.
use Rattle.nr_walk.proofs.ShownMaps.{all_maps}
use Rattle.nr_walk.proofs.whole.walk.Goals as goal

pub returns-clause-whole : goal.returns-clause-whole
returns-clause-whole c = all_maps c.args.texts.now c.args.searched.now c.args.root.now c.walk_exactly.result c.walk_exactly.ensures
