-- The goals of `laws::parts_in_turn` that no tactic closes.
use Rattle.nr_parts.proofs.Whole.{parts_whole}
use Rattle.nr_parts.proofs.laws.parts_in_turn.Goals as goal

pub returns : goal.returns
returns c = λ entries count order bytes some. parts_whole entries count order bytes some
