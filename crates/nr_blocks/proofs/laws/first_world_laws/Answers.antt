-- The goals of `laws::first_world_laws` that no tactic closes.
use Rattle.nr_blocks.proofs.Founded.{one_shard, all_tokens}
use Rattle.nr_blocks.proofs.ValidFirst.{first_valid}
use Rattle.nr_blocks.proofs.laws.first_world_laws.Goals as goal

pub returns-clause-one : goal.returns-clause-one
returns-clause-one c = one_shard

pub returns-clause-supply : goal.returns-clause-supply
returns-clause-supply c = all_tokens

pub returns-clause-valid : goal.returns-clause-valid
returns-clause-valid c = first_valid
