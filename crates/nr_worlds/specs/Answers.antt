-- What is answered of entries. This project's own.
use Rattle.std.specs.Prelude.{List, Result, Ok, Err, if◌then◌else◌}
use Rattle.nr_columns.specs.declared.entry.Entry.{Entry}
use Rattle.nr_config.specs.Config.{Config}
use Rattle.nr_records.specs.declared.receipt.Receipt.{Receipt}
use Rattle.nr_state.specs.FromEntries.{world_from}
use Rattle.nr_worlds.specs.Judging.{is_queue, is_world}
use Rattle.nr_worlds.specs.declared.fault.WorldFault.{WorldFault}
use Rattle.nr_worlds.specs.declared.fault.WorldFault.TheVariants.{Memory, NotWorld}

abbrev pub memory_fault : WorldFault
memory_fault = Memory

-- whether they are those of a valid world
abbrev pub world_checked : Config → List Entry → Result (Unit {0}) WorldFault
world_checked c es = if is_world c es then Ok tt else Err NotWorld

-- the delayed receipts, the front first, where they are those of a delayed queue and of nothing else
abbrev pub queue_checked : List Entry → Result (List Receipt) WorldFault
queue_checked es = if is_queue es then Ok (world_from es).delayed else Err NotWorld
