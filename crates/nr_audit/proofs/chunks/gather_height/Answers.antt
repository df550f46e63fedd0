-- The goals of `chunks::gather_height` that no tactic closes.
use Rattle.std.proofs.Common.{◌+◌, refl}
use Rattle.nr_chunk.specs.Runs.{chain_in}
use Rattle.nr_overlap.proofs.Orders.{map_longer}
use Rattle.nr_audit.specs.Archive.{chunk_bytes}
use Rattle.nr_audit.proofs.chunks.gather_height.Goals as goal

pub loop-shard-preserved : goal.loop-shard-preserved
loop-shard-preserved g c =
    map_longer (λ shard. chunk_bytes (chain_in c.args.core.now.phases) shard c.args.below) c.loop-shard.files.items
    c.push.new.self.items c.in_ok-file.file c.loop-shard.shard (c.loop-shard.shard + 1) c.loop-shard.invariant
    c.in_ok-push.ensures.items c.in_ok-file.ensures refl
