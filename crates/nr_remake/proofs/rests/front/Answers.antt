-- The goals of `rests::front` that no tactic closes.
use Rattle.nr_remake.proofs.MarkedLevels.{folded_first}
use Rattle.nr_remake.proofs.rests.front.Goals as goal

pub loop-one-init : goal.loop-one-init
loop-one-init c = folded_first c.args.rests.now c.index-rests-0.result c.path-shared.result.now c.requires c.index-rests-0.is c.path-shared.ensures
