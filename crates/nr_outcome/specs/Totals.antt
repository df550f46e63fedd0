-- The totals of a run at any moment: the supply, which is all that its start has in tokens, and the sums of the
-- tallies of all that stands. This project's own.
use Rattle.std.specs.Prelude.{ℕ, List}
use Rattle.nr_chunk.specs.Chain.{Chain}
use Rattle.nr_chunk.specs.Start.{start_tokens}
use Rattle.nr_chunk.specs.declared.tally.Tally.{Tally}
use Rattle.nr_overlap.specs.declared.position.Position.{Position}
use Rattle.nr_places.specs.Totals.{tally_at}
use Rattle.nr_report.specs.declared.totals.Totals.{Totals}

-- where there was this much at first
abbrev pub totals_of : ℕ → Tally → Totals
totals_of supply t =
    record { supply = supply; accounts = t.accounts; receipts = t.receipts; burnt = t.burnt; places = t.places }

abbrev pub totals_at : Chain → List Position → Totals
totals_at x ps = totals_of (start_tokens x.config x.start) (tally_at x ps)
