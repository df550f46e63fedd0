-- The goals of `laws::passing_law` that no tactic closes.
use Rattle.nr_walk.proofs.Passing.{passes}
use Rattle.nr_walk.proofs.laws.passing_law.Goals as goal

pub returns : goal.returns
returns c = passes
