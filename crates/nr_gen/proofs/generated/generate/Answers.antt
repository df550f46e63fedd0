-- The goals of `generated::generate` that no tactic closes.
use Rattle.std.proofs.Common.{sym, subst}
use Rattle.std.specs.List.{AllByRecursion}
use Rattle.nr_blocks.specs.BlocksFiles.{FitsPrice}
use Rattle.nr_blocks.specs.Genesis.{IsSoundGenesis}
use Rattle.nr_blocks.specs.declared.genesis.Genesis.{Genesis}
use Rattle.nr_config.specs.Config.{Config, generated}
use Rattle.nr_gen.specs.Founding.{CountsStorage}
use Rattle.nr_blocks.specs.Spellings.{AreBlocks, IsGenesis}
use Rattle.nr_blocks.specs.declared.version.Version.TheVariants.{One}
use Rattle.nr_gen.proofs.Fitting.{blocks_filed, genesis_filed, prices_fit}
use Rattle.nr_gen.proofs.Founding.{counts_generated, sound_genesis}
use Rattle.nr_gen.proofs.generated.generate.Goals as goal

pub returns-clause-sound : goal.returns-clause-sound
returns-clause-sound c =
    subst (λ (g : Genesis). (config : Config) → CountsStorage config → IsSoundGenesis config g) (sym c.in_ok-genesis.ensures) (λ config counts. sound_genesis config counts c.args.shards c.requires.few_shards)

pub returns-clause-built_in : goal.returns-clause-built_in
returns-clause-built_in c = subst (IsSoundGenesis generated) (sym c.in_ok-genesis.ensures) (sound_genesis generated counts_generated c.args.shards c.requires.few_shards)

pub returns-clause-genesis_file : goal.returns-clause-genesis_file
returns-clause-genesis_file c = subst (IsGenesis generated) (sym c.in_ok-genesis.ensures) (genesis_filed c.args.shards c.requires.few_shards)

pub returns-clause-blocks_file : goal.returns-clause-blocks_file
returns-clause-blocks_file c = subst (AreBlocks One c.args.shards) (sym c.in_ok-blocks.ensures) (blocks_filed c.args.start c.args.shards c.args.blocks c.requires.few_shards c.requires.few_blocks)

pub returns-clause-priced : goal.returns-clause-priced
returns-clause-priced c = subst (AllByRecursion FitsPrice) (sym c.in_ok-blocks.ensures) (prices_fit c.args.start c.args.shards c.args.blocks)
