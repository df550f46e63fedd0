-- Names and keys of the accounts of a generated chain. This project's own.
use Rattle.std.specs.Prelude.{ℕ, ◌+◌, ◌-◌, ◌/◌, ◌%◌, List, [], ◌∷◌, ◌++◌, map, replicate, codes}
use Rattle.std.specs.List.{range_with_len}
use Rattle.nr_ids.specs.declared.key.PublicKey.{PublicKey}
use Rattle.nr_ids.specs.declared.key.PublicKey.TheVariants.{Ed25519}

abbrev pub digit : ℕ → ℕ
digit n = 48 + n

-- s and two digits, as s07
abbrev pub shard_name : ℕ → List ℕ
shard_name shard = 115 ∷ digit (shard / 10) ∷ digit (shard % 10) ∷ []

-- as s07-u3
abbrev pub user_id : ℕ → ℕ → List ℕ
user_id shard user = shard_name shard ++ codes "-u" ++ digit user ∷ []

-- as s07-tok
abbrev pub contract_id : ℕ → List ℕ
contract_id shard = shard_name shard ++ codes "-tok"

-- between so many shards: the names of the second shard and of those behind it
unfoldable pub boundaries : ℕ → List (List ℕ)
boundaries shards = map (λ below. shard_name (below + 1)) (range_with_len 0 (shards - 1))

-- the numbers of the shard and the user, and zeros
abbrev pub user_key : ℕ → ℕ → PublicKey
user_key shard user = Ed25519 (shard ∷ user ∷ replicate 30 0)
