-- What holds at the loops of `outline::chunks_of`.
use Rattle.std.proofs.Common.{◌≡◌, ◌-◌}
use Rattle.nr_bytes.specs.Fields.{items_at}
use Rattle.nr_bytes.proofs.Items.{with_front}
use Rattle.nr_blocks.specs.Outlines.{chunk_outline_at}
use Rattle.nr_blocks.proofs.outline.chunks_of.Given as goal

abbrev pub invariant-loop : goal.invariant-loop
invariant-loop l =
    with_front l.chunks.items (items_at chunk_outline_at (l.count - l.counter) l.reader)
    ≡ items_at chunk_outline_at l.count l.initial.reader
