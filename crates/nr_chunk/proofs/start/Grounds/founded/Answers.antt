-- The goals of `start::Grounds::founded` that no tactic closes.
use Rattle.nr_chunk.specs.StartSums.{genesis_is}
use Rattle.nr_chunk.proofs.start.Grounds.founded.Goals as goal

pub invariant_of-result : goal.invariant_of-result
invariant_of-result c = record { start = genesis_is c.args.config c.args.genesis c.requires.sound.entries; fills = c.requires.sound.entries }
