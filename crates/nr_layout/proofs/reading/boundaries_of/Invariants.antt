-- What holds at the loops of `reading::boundaries_of`.
use Rattle.std.proofs.Common.{◌≡◌, ◌-◌, None}
use Rattle.nr_layout.specs.Reading.{boundaries_at}
use Rattle.nr_bytes.proofs.Items.{with_front}
use Rattle.nr_layout.proofs.Boundaries.{last_of}
use Rattle.nr_layout.proofs.reading.boundaries_of.Given as goal

abbrev pub invariant-loop : goal.invariant-loop
invariant-loop l = with_front l.boundaries.items (boundaries_at (last_of l.boundaries.items) (l.count - l.counter) l.reader) ≡ boundaries_at None l.count l.initial.reader
