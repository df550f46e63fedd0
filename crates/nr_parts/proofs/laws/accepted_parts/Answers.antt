-- The goals of `laws::accepted_parts` that no tactic closes.
use Rattle.nr_parts.proofs.Accepted.{accepted}
use Rattle.nr_parts.proofs.laws.accepted_parts.Goals as goal

pub returns : goal.returns
returns c = λ root part is. accepted root part is
