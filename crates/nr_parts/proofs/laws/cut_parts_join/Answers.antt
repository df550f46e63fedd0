-- The goals of `laws::cut_parts_join` that no tactic closes.
use Rattle.nr_parts.proofs.Joined.{cut_joined}
use Rattle.nr_parts.proofs.laws.cut_parts_join.Goals as goal

pub returns : goal.returns
returns c = λ m count. cut_joined m count
