-- The goals of `laws::world_laws` that no tactic closes.
use Rattle.nr_cut.proofs.Cuts.{keeps_worlds}
use Rattle.nr_cut.proofs.laws.world_laws.Goals as goal

pub returns : goal.returns
returns c = keeps_worlds
