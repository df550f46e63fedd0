-- The goals of `laws::cut_parts_pass` that no tactic closes.
use Rattle.nr_parts.proofs.Agreed.{cut_accepted}
use Rattle.nr_parts.proofs.laws.cut_parts_pass.Goals as goal

pub returns : goal.returns
returns c = λ m count number. cut_accepted m count number
