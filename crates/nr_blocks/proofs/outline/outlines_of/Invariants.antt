-- What holds at the loops of `outline::outlines_of`.
use Rattle.std.proofs.Common.{◌≡◌, ◌-◌}
use Rattle.nr_bytes.specs.Fields.{items_at}
use Rattle.nr_bytes.proofs.Items.{with_front}
use Rattle.nr_blocks.specs.Outlines.{outline_at}
use Rattle.nr_blocks.proofs.outline.outlines_of.Given as goal

abbrev pub invariant-loop : goal.invariant-loop
invariant-loop l =
    with_front l.outlines.items (items_at (outline_at l.version) (l.count - l.counter) l.reader)
    ≡ items_at (outline_at l.version) l.count l.initial.reader
