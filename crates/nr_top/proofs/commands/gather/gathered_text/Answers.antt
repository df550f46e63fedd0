-- The goals of `commands::gather::gathered_text` that no tactic closes.
use Rattle.std.proofs.Common.{arith}
use Rattle.nr_top.specs.Moments.{chain_of}
use Rattle.nr_top.proofs.Entered.{is_chunk}
use Rattle.nr_top.proofs.commands.gather.gathered_text.Goals as goal

pub extract-requires-clause-inside : goal.extract-requires-clause-inside
extract-requires-clause-inside c = (is_chunk (chain_of c.args.core) c.args.chunk.shard c.args.chunk.height c.requires.there).inside

pub extract-requires-clause-within : goal.extract-requires-clause-within
extract-requires-clause-within c =
    let chunk = is_chunk (chain_of c.args.core) c.args.chunk.shard c.args.chunk.height c.requires.there in
    omega (arith, chunk.positive, chunk.below, c.saturating_sub-below.ensures)
