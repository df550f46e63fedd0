-- The goals of `merging::regrow` that no tactic closes.
use Rattle.std.proofs.Common.{refl}
use Rattle.nr_trienodes.proofs.Moves.{regrown}
use Rattle.nr_trienodes.proofs.merging.regrow.Goals as goal

pub returns-clause-steady : goal.returns-clause-steady
returns-clause-steady c = regrown c.args.nodes.now c.args.way.now _ c.requires.way c.requires.bare refl refl c.in_ok-part.ensures.small refl refl
