-- The goals of `commands::roots::add_height` that no tactic closes.
use Rattle.nr_chunk.specs.Runs.{chain_in}
use Rattle.nr_top.specs.Chunks.{result_at}
use Rattle.nr_top.specs.Proving.{roots_told}
use Rattle.nr_outcome.proofs.Steps.{text_next}
use Rattle.nr_top.proofs.commands.roots.add_height.Goals as goal

pub loop-shard-preserved : goal.loop-shard-preserved
loop-shard-preserved c =
    text_next c.loop-shard.shard (λ s. roots_told (result_at (chain_in c.args.outcome.now.chain) s c.args.height.0)) c.args.text.now c.loop-shard.text c.add_chunk.new.text
    c.loop-shard.invariant c.in_ok-add_chunk.ensures
