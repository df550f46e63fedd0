-- The goals of `laws::apart_laws` that no tactic closes.
use Rattle.nr_apart.proofs.Chunks.{stays_apart}
use Rattle.nr_apart.proofs.Firsts.{cut_starts, genesis_starts}
use Rattle.nr_apart.proofs.laws.apart_laws.Goals as goal

pub returns-clause-after : goal.returns-clause-after
returns-clause-after c = stays_apart

pub returns-clause-genesis : goal.returns-clause-genesis
returns-clause-genesis c = genesis_starts

pub returns-clause-cut : goal.returns-clause-cut
returns-clause-cut c = cut_starts
