-- What holds at the loops of `commands::roots::add_height`.
use Rattle.std.proofs.Common.{◌≡◌, ◌++◌}
use Rattle.nr_chunk.specs.Runs.{chain_in}
use Rattle.nr_top.specs.Chunks.{result_at}
use Rattle.nr_top.specs.Proving.{roots_told}
use Rattle.nr_outcome.specs.Texts.{text_below}
use Rattle.nr_top.proofs.commands.roots.add_height.Given as goal

abbrev pub invariant-loop-shard : goal.invariant-loop-shard
invariant-loop-shard l = l.text ≡ l.fn.text ++ text_below l.shard (λ s. roots_told (result_at (chain_in l.outcome.chain) s l.height.0))
