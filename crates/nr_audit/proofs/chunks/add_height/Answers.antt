-- The goals of `chunks::add_height` that no tactic closes.
use Rattle.std.proofs.Common.{ap, arith, ◌∙◌}
use Rattle.nr_chunk.specs.Chain.{rules_of}
use Rattle.nr_chunk.specs.Runs.{chain_in}
use Rattle.nr_audit.specs.Archive.{chunk_bytes, chunk_files}
use Rattle.nr_audit.proofs.Files.{file_at, file_count, files_longer}
use Rattle.nr_audit.proofs.chunks.add_height.Goals as goal

pub bounds-files-shard : goal.bounds-files-shard
bounds-files-shard g c =
    let count = file_count (λ shard. chunk_bytes (chain_in c.args.core.now.phases) shard c.args.below) c.args.files.now _ c.requires.files in
    omega (arith, count, c.loop-shard-test.true, c.shards-shard-end.ensures.count, ap (λ p. (rules_of (chain_in p)).shards) c.phases.ensures)

pub add_if_there-requires-clause-file : goal.add_if_there-requires-clause-file
add_if_there-requires-clause-file g c =
    c.index-files-shard.is
    ∙ file_at (λ shard. chunk_bytes (chain_in c.args.core.now.phases) shard c.args.below) c.args.files.now _ c.loop-shard.shard c.index-files-shard.result c.requires.files
    (omega (arith, c.loop-shard-test.true, c.shards-shard-end.ensures.count, ap (λ p. (rules_of (chain_in p)).shards) c.phases.ensures))

pub loop-shard-preserved : goal.loop-shard-preserved
loop-shard-preserved g c =
    files_longer (λ shard. chunk_files (chain_in c.args.core.now.phases) shard c.args.below) c.loop-shard.shard
    c.args.archive.now c.loop-shard.archive c.add_if_there.new.archive c.loop-shard.invariant c.in_ok-add_if_there.ensures
