-- What holds at the loops of `parts::check_memories`.
use Rattle.std.proofs.Common.{◌≡◌, drop}
use Rattle.nr_wasmvalid.specs.Parts.{outcome, each, memory_asks}
use Rattle.nr_wasmvalid.proofs.parts.check_memories.Given as goal

abbrev pub invariant-loop-index : goal.invariant-loop-index
invariant-loop-index l = outcome (each (memory_asks l.pages) l.index (drop l.index l.memories)) ≡ outcome (each (memory_asks l.pages) 0 l.memories)
