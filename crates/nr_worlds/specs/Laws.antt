-- What holds of entries that pass. Laws of this project's own.
use Rattle.std.specs.Prelude.{◌≡◌, List}
use Rattle.std.specs.FinMap.{entries}
use Rattle.nr_columns.specs.Entries.{pairs_of}
use Rattle.nr_columns.specs.declared.entry.Entry.{Entry}
use Rattle.nr_config.specs.Config.{Config}
use Rattle.nr_state.specs.Flat.{flat}
use Rattle.nr_state.specs.FromEntries.{AreWholeEntries, world_from}
use Rattle.nr_state.specs.Valid.{IsValidWorld}
use Rattle.nr_state.specs.Worlds.{IsWorld}
use Rattle.nr_worlds.specs.Judging.{queue_of}

-- they are those of the world that they stand for, which is valid
pub record AreOfWorld (c : Config) (es : List Entry) : Type 0 where
  pub fits : IsWorld (world_from es)
  pub valid : IsValidWorld c (world_from es)
  pub whole : AreWholeEntries es
  pub pairs : pairs_of es ≡ entries (flat (world_from es))

-- they are those of the world that they stand for, which has a delayed queue and nothing else
pub record AreOfQueue (es : List Entry) : Type 0 where
  pub fits : IsWorld (world_from es)
  pub alone : queue_of (world_from es) ≡ world_from es
  pub whole : AreWholeEntries es
  pub pairs : pairs_of es ≡ entries (flat (world_from es))
