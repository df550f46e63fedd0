-- What holds at the loops of `outline::places_of`.
use Rattle.std.proofs.Common.{◌≡◌, ◌-◌}
use Rattle.nr_bytes.specs.Fields.{items_at}
use Rattle.nr_bytes.proofs.Items.{with_front}
use Rattle.nr_records.specs.Transactions.{transaction_at}
use Rattle.nr_blocks.specs.Outlines.{placed}
use Rattle.nr_blocks.proofs.outline.places_of.Given as goal

abbrev pub invariant-loop : goal.invariant-loop
invariant-loop l =
    with_front l.places.items (items_at (placed transaction_at) (l.count - l.counter) l.reader)
    ≡ items_at (placed transaction_at) l.count l.initial.reader
