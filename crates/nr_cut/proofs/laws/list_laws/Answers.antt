-- The goals of `laws::list_laws` that no tactic closes.
use Rattle.nr_cut.proofs.Cuts.{keeps_lists}
use Rattle.nr_cut.proofs.laws.list_laws.Goals as goal

pub returns : goal.returns
returns c = keeps_lists
