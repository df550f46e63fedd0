-- The chain of three files, as a plan. This project's own files and limits.
use Rattle.std.specs.Prelude.{ℕ, ◌+◌, List, [], ◌∷◌, ◌++◌, length}
use Rattle.nr_blocks.specs.Judging.{genesis_read}
use Rattle.nr_blocks.specs.declared.fault.BlocksFault.TheVariants as blocks
use Rattle.nr_blocks.specs.declared.fault.GenesisFault.{GenesisFault}
use Rattle.nr_blocks.specs.declared.fault.GenesisFault.TheVariants as genesis
use Rattle.nr_blocks.specs.declared.genesis.Genesis.{Genesis}
use Rattle.nr_chainfiles.specs.declared.loading.ChainFiles.{ChainFiles}
use Rattle.nr_config.specs.Config.{Config}
use Rattle.nr_configfile.specs.Plans.{config_files, config_plan}
use Rattle.nr_reshard.specs.Judging.{chain_read}
use Rattle.nr_reshard.specs.declared.chain_file.ChainFile.{ChainFile}
use Rattle.nr_reshard.specs.declared.fault.ChainFault.{ChainFault}
use Rattle.nr_reshard.specs.declared.fault.ChainFault.TheVariants.{Blocks, Reshard}
use Rattle.nr_shell.specs.Plans.{Plan, Answer, and_then, by_reading, file_plan}
use Rattle.nr_words.specs.Command.{Names}

-- ---- what a program refuses a faulty file with; no bytes lead to want of memory
-- a genesis, by the fault's kind and numbers
abbrev pub genesis_fault : {E : Type 0} → (ℕ → ℕ → ℕ → ℕ → E) → GenesisFault → E
genesis_fault refusal (genesis.Spelling at) = refusal 1 at 0 0
genesis_fault refusal (genesis.Duplicate index) = refusal 2 index 0 0
genesis_fault refusal (genesis.NoOwner index) = refusal 3 index 0 0
genesis_fault refusal (genesis.Usage index stated counted) = refusal 4 index stated counted
genesis_fault refusal genesis.Supply = refusal 5 0 0 0
genesis_fault refusal (genesis.CodeHash index) = refusal 6 index 0 0
genesis_fault refusal genesis.Memory = refusal 0 0 0 0

-- blocks, by the fault's kind and number
abbrev pub blocks_fault : {E : Type 0} → (ℕ → ℕ → E) → ChainFault → E
blocks_fault refusal (Blocks (blocks.Spelling at)) = refusal 1 at
blocks_fault refusal (Blocks (blocks.ShardCount height)) = refusal 2 height
blocks_fault refusal (Blocks (blocks.HeightOrder height)) = refusal 3 height
blocks_fault refusal (Blocks blocks.TooMany) = refusal 4 0
blocks_fault refusal (Blocks (blocks.Stake at)) = refusal 5 at
blocks_fault refusal (Blocks blocks.Memory) = refusal 0 0
blocks_fault refusal (Reshard height) = refusal 6 height

-- ---- the genesis, in a file of at most 64 MiB
abbrev pub by_genesis_bytes : {E : Type 0} → (ℕ → ℕ → ℕ → ℕ → E) → Config → List ℕ → Plan Genesis E
by_genesis_bytes refusal c bytes = by_reading (genesis_fault refusal) (genesis_read c bytes)

abbrev pub genesis_plan : {E : Type 0} → (ℕ → ℕ → ℕ → ℕ → E) → Config → List ℕ → Plan Genesis E
genesis_plan refusal c name = and_then (file_plan name 67108864 (refusal 0 0 0 0)) (by_genesis_bytes refusal c)

-- ---- the blocks for so many shards at first, in a file of at most 256 MiB
abbrev pub by_blocks_bytes : {E : Type 0} → (ℕ → ℕ → E) → ℕ → List ℕ → Plan ChainFile E
by_blocks_bytes refusal shards bytes = by_reading (blocks_fault refusal) (chain_read shards bytes)

abbrev pub blocks_plan : {E : Type 0} → (ℕ → ℕ → E) → ℕ → List ℕ → Plan ChainFile E
blocks_plan refusal shards name = and_then (file_plan name 268435456 (refusal 0 0)) (by_blocks_bytes refusal shards)

-- ---- the three files, each of which is asked for once the one before has passed
abbrev pub files_with : Config → Genesis → ChainFile → ChainFiles
files_with c g file = record { config = c; genesis = g; file = file }

module _ {E : Type 0} (config : ℕ → ℕ → E) (genesis : ℕ → ℕ → ℕ → ℕ → E) (blocks : ℕ → ℕ → E) (names : Names) where
  abbrev pub by_genesis : Config → Genesis → Plan ChainFiles E
  by_genesis c g =
      and_then (blocks_plan blocks (length g.layout + 1) names.blocks) (λ file. Answer (files_with c g file))

  abbrev pub by_config : Config → Plan ChainFiles E
  by_config c = and_then (genesis_plan genesis c names.genesis) (by_genesis c)

  abbrev pub chain_plan : Plan ChainFiles E
  chain_plan = and_then (config_plan config names.config) by_config

-- their names
abbrev pub chain_files : Names → List (List ℕ)
chain_files names = config_files names.config ++ names.genesis ∷ names.blocks ∷ []
