-- The goals of `laws::completing_law` that no tactic closes.
use Rattle.nr_walk.proofs.Completing.{completes}
use Rattle.nr_walk.proofs.laws.completing_law.Goals as goal

pub returns : goal.returns
returns c = completes
