-- The goals of `laws::chunk_laws` that no tactic closes.
use Rattle.nr_chunk.specs.Lawful.{tokens_kept}
use Rattle.nr_chunk.proofs.laws.chunk_laws.Goals as goal

pub returns : goal.returns
returns c = record { tokens = tokens_kept }
