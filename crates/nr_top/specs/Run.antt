-- The run that the files of a chain give. Files and report are this project's own.
use Rattle.std.specs.Prelude.{List, None}
use Rattle.nr_blocks.specs.declared.block.Block.{Block}
use Rattle.nr_blocks.specs.declared.genesis.Genesis.{Genesis}
use Rattle.nr_chainfiles.specs.declared.loading.ChainFiles.{ChainFiles}
use Rattle.nr_chunk.specs.Chain.{Chain, chain_with}
use Rattle.nr_chunk.specs.Start.{genesis_start}
use Rattle.nr_config.specs.Config.{Config}
use Rattle.nr_contract.specs.Contract.{call}
use Rattle.nr_course.specs.Course.{Course, course}

-- one chain, or two legs where the boundaries change
abbrev pub loaded : ChainFiles → Course
loaded files = course files.config files.genesis files.file (call files.config)

-- blocks over a genesis, all under its boundaries
abbrev pub chain : Config → Genesis → List Block → Chain
chain c g bs = chain_with c (genesis_start g) bs (call c)

abbrev pub one_leg : Chain → Course
one_leg x = record { first = x; turn = None }
