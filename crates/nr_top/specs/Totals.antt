-- What holds of the totals of a run. This project's own.
use Rattle.std.specs.Prelude.{◌≡◌, ℕ, ◌+◌}
use Rattle.nr_places.specs.Replay.{PlacesAddUp}
use Rattle.nr_report.specs.declared.totals.Totals.{Totals}

-- the totals of a run over a genesis with this supply: that is the supply that they tell; what the accounts have, what
-- receipts hold and what was burnt are together as much; and as many receipts were routed as are executed, postponed,
-- delayed and in flight
pub record AddUp (given : ℕ) (t : Totals) : Type 0 where
  pub supply : t.supply ≡ given
  pub tokens : t.accounts + t.receipts + t.burnt ≡ given
  pub places : PlacesAddUp 0 t.places
