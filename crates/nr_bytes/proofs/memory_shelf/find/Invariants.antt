-- What holds at the loops of `memory_shelf::find`.
use Rattle.std.proofs.Common.{◌≡◌, drop}
use Rattle.nr_bytes.specs.Memory.{held_in}
use Rattle.nr_bytes.proofs.memory_shelf.find.Given as goal

abbrev pub invariant-loop-file : goal.invariant-loop-file
invariant-loop-file l = held_in (drop l.file-index l.files) l.name ≡ held_in l.files l.name
