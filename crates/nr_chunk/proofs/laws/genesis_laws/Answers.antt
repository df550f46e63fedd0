-- The goals of `laws::genesis_laws` that no tactic closes.
use Rattle.nr_chunk.specs.StartSums.{genesis_is, genesis_tokens}
use Rattle.nr_chunk.proofs.laws.genesis_laws.Goals as goal

pub returns : goal.returns
returns c = record { start = genesis_is; supply = genesis_tokens }
