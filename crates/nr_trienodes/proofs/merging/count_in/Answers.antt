-- The goals of `merging::count_in` that no tactic closes.
use Rattle.std.proofs.Common.{ap, ◌∙◌, List, ℕ, Option}
use Rattle.std.specs.Prelude.{is_some}
use Rattle.nr_trienodes.proofs.merging.count_in.Goals as goal

pub returns-clause-counts : goal.returns-clause-counts
returns-clause-counts c = λ m reads many. c.in_ok-after.ensures m (c.in_ok-found.ensures.found ∙ ap (λ (o : Option (List ℕ)). is_some o) (reads c.args.change.now.0)) many
