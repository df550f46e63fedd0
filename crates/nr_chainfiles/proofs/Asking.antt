-- Which files a chain asks for.
use Rattle.std.proofs.Common.{ℕ, ◌+◌, List, [], ◌∷◌, length}
use Rattle.nr_blocks.specs.Judging.{genesis_read}
use Rattle.nr_blocks.specs.declared.genesis.Genesis.{Genesis}
use Rattle.nr_chainfiles.specs.Plans.{blocks_fault, blocks_plan, by_blocks_bytes, by_config, by_genesis}
use Rattle.nr_chainfiles.specs.Plans.{by_genesis_bytes, chain_files, chain_plan, files_with, genesis_fault, genesis_plan}
use Rattle.nr_config.specs.Config.{Config}
use Rattle.nr_configfile.proofs.Asking.{config_asks}
use Rattle.nr_configfile.specs.Plans.{config_files, config_plan}
use Rattle.nr_reshard.specs.Judging.{chain_read}
use Rattle.nr_shell.proofs.Ends.{file_asks, reading_asks, then_asks}
use Rattle.nr_shell.specs.Plans.{Answer, Asks, Plan, and_then, file_plan}
use Rattle.nr_words.specs.Command.{Names}

-- a file, behind whose bytes no other is asked for
file_alone : {A E : Type 0} (name : List ℕ) (limit : ℕ) (long : E) (next : List ℕ → Plan A E)
    → ((bytes : List ℕ) → Asks [] (next bytes)) → Asks (name ∷ []) (and_then (file_plan name limit long) next)
file_alone name limit long next more =
    then_asks (name ∷ []) [] (file_plan name limit long) next (file_asks name limit long) more

genesis_asks : {E : Type 0} (refusal : ℕ → ℕ → ℕ → ℕ → E) (c : Config) (name : List ℕ)
    → Asks (name ∷ []) (genesis_plan refusal c name)
genesis_asks refusal c name =
    file_alone name 67108864 (refusal 0 0 0 0) (by_genesis_bytes refusal c)
    (λ b. reading_asks (genesis_fault refusal) (genesis_read c b))

blocks_asks : {E : Type 0} (refusal : ℕ → ℕ → E) (shards : ℕ) (name : List ℕ)
    → Asks (name ∷ []) (blocks_plan refusal shards name)
blocks_asks refusal shards name =
    file_alone name 268435456 (refusal 0 0) (by_blocks_bytes refusal shards)
    (λ b. reading_asks (blocks_fault refusal) (chain_read shards b))

module _ {E : Type 0} (config : ℕ → ℕ → E) (genesis : ℕ → ℕ → ℕ → ℕ → E) (blocks : ℕ → ℕ → E) (names : Names) where
  by_genesis_asks : (c : Config) (g : Genesis) → Asks (names.blocks ∷ []) (by_genesis config genesis blocks names c g)
  by_genesis_asks c g =
      then_asks (names.blocks ∷ []) [] (blocks_plan blocks (length g.layout + 1) names.blocks)
      (λ file. Answer (files_with c g file)) (blocks_asks blocks (length g.layout + 1) names.blocks) (λ file. tt)

  pub by_config_asks : (c : Config) → Asks (names.genesis ∷ names.blocks ∷ []) (by_config config genesis blocks names c)
  by_config_asks c =
      then_asks (names.genesis ∷ []) (names.blocks ∷ []) (genesis_plan genesis c names.genesis)
      (by_genesis config genesis blocks names c) (genesis_asks genesis c names.genesis) (by_genesis_asks c)

  pub chain_asks : Asks (chain_files names) (chain_plan config genesis blocks names)
  chain_asks =
      then_asks (config_files names.config) (names.genesis ∷ names.blocks ∷ []) (config_plan config names.config)
      (by_config config genesis blocks names) (config_asks config names.config) by_config_asks
