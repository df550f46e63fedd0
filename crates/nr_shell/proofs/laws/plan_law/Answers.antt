-- The goals of `laws::plan_law` that no tactic closes.
use Rattle.nr_shell.proofs.Ends.{one_end}
use Rattle.nr_shell.proofs.laws.plan_law.Goals as goal

pub returns : goal.returns
returns g c = λ held names others p one two. one_end held names others p one two
