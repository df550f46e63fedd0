-- The goals of `laws::small_laws` that no tactic closes.
use Rattle.nr_chunk.proofs.Small.{good_all, good_one, small_world}
use Rattle.nr_chunk.proofs.laws.small_laws.Goals as goal

pub returns : goal.returns
returns c = record { world = small_world; receipt = good_one; list = good_all }
