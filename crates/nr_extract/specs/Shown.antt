-- The states that a chunk is run again from. This project's own.
use Rattle.std.specs.Prelude.{◌+◌, ◌^◌, ◌≤◌, length}
use Rattle.nr_state.specs.World.{World}
use Rattle.nr_state.specs.Worlds.{IsWorld}

-- records fit their fields, and at most 2^63 receipts were ever delayed
pub record IsShown (w : World) : Type 0 where
  pub fits : IsWorld w
  pub few : w.served + length w.delayed ≤ 2 ^ 63
