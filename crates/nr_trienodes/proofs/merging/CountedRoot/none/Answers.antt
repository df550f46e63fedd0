-- The goals of `merging::CountedRoot::none` that no tactic closes.
use Rattle.nr_trienodes.proofs.Counts.{none_counted}
use Rattle.nr_trienodes.proofs.merging.CountedRoot.none.Goals as goal

pub returns-clause-count : goal.returns-clause-count
returns-clause-count c = λ nodes. none_counted nodes
