-- The world that trie entries stand for. This project's own.
use Rattle.std.specs.Prelude.{List}
use Rattle.nr_columns.specs.Entries.{AreLaidEntries, contents_of}
use Rattle.nr_columns.specs.View.{columns_in}
use Rattle.nr_columns.specs.declared.entry.Entry.{Entry}
use Rattle.nr_state.specs.View.{IsWhole, world_of}
use Rattle.nr_state.specs.World.{World}

abbrev pub world_from : List Entry → World
world_from es = world_of (contents_of es)

-- they are those of a world whose records fit their fields, and nothing else
pub record AreWholeEntries (es : List Entry) : Type 0 where
  pub entries : AreLaidEntries es
  pub whole : IsWhole (columns_in (contents_of es))
