-- What holds at the loops of `receipts::add_each_due`.
use Rattle.std.proofs.Common.{◌≡◌, ◌++◌, take}
use Rattle.std.specs.List.{flat_map}
use Rattle.nr_chunk.specs.Runs.{chain_in}
use Rattle.nr_extract.specs.Chunk.{due_to}
use Rattle.nr_extract.proofs.receipts.add_each_due.Given as goal

abbrev pub invariant-loop-due : goal.invariant-loop-due
invariant-loop-due g l = l.taken.items ≡ l.initial.taken.items ++ flat_map (due_to (chain_in l.core.phases) l.shard.0) (take l.due-index l.dues)
