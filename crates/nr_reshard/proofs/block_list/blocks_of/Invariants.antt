-- What holds at the loops of `block_list::blocks_of`.
use Rattle.std.proofs.Common.{◌≡◌, ◌-◌}
use Rattle.nr_blocks.specs.BlocksFiles.{block_at}
use Rattle.nr_blocks.specs.declared.version.Version.TheVariants.{Two}
use Rattle.nr_bytes.proofs.Items.{with_front}
use Rattle.nr_bytes.specs.Fields.{items_at}
use Rattle.nr_reshard.proofs.block_list.blocks_of.Given as goal

abbrev pub invariant-loop : goal.invariant-loop
invariant-loop l =
    with_front l.blocks.items (items_at (block_at Two) (l.count - l.counter) l.reader)
    ≡ items_at (block_at Two) l.count l.initial.reader
