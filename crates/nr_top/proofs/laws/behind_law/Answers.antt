-- The goals of `laws::behind_law` that no tactic closes.
use Rattle.nr_top.proofs.WithBytes.{replay_behind}
use Rattle.nr_top.proofs.laws.behind_law.Goals as goal

pub returns : goal.returns
returns c = λ names schedule. replay_behind names schedule
