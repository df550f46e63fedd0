-- The goals of `laws::locality_laws` that no tactic closes.
use Rattle.nr_chunk.proofs.Localized.{chunk_is_local, valid_keyed}
use Rattle.nr_chunk.proofs.laws.locality_laws.Goals as goal

pub returns : goal.returns
returns c = record { local = chunk_is_local; keyed = valid_keyed }
