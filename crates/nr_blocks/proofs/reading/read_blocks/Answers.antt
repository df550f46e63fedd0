-- The goals of `reading::read_blocks` that no tactic closes.
use Rattle.std.proofs.Common.{ap, subst, ◌∙◌}
use Rattle.nr_bytes.specs.Answers.{Gives}
use Rattle.nr_bytes.specs.Numbers.{IsBytes}
use Rattle.nr_blocks.specs.Judging.{blocks_read}
use Rattle.nr_blocks.specs.declared.fault.BlocksFault.TheVariants as blocks
use Rattle.nr_blocks.proofs.Spellings.{are_blocks, are_priced, blocks_read_back}
use Rattle.nr_blocks.proofs.reading.read_blocks.Goals as goal

pub returns-clause-found : goal.returns-clause-found
returns-clause-found c = are_blocks c.args.shards c.args.bytes.items c.blocks_of.result
    (subst IsBytes c.as_slice.ensures.value c.bytes_law.ensures) c.blocks_of.ensures

pub returns-clause-priced : goal.returns-clause-priced
returns-clause-priced c = are_priced c.args.shards c.args.bytes.items c.blocks_of.result
    (subst IsBytes c.as_slice.ensures.value c.bytes_law.ensures) c.blocks_of.ensures

pub returns-clause-only : goal.returns-clause-only
returns-clause-only c = λ version list fits e. subst (Gives blocks.Memory c.blocks_of.result)
    (ap (blocks_read c.args.shards) e ∙ blocks_read_back version c.args.shards list fits) c.blocks_of.ensures
