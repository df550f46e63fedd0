-- What holds at the loops of `checks::check_all_chunks`.
use Rattle.nr_blocks.proofs.Turns.{IsLeft}
use Rattle.nr_reshard.proofs.checks.check_all_chunks.Given as goal
use Rattle.nr_reshard.specs.Judging.{has_chunks_by, shards_at}

abbrev pub invariant-loop-index : goal.invariant-loop-index
invariant-loop-index l = IsLeft (has_chunks_by (shards_at l.first l.reshard)) l.blocks l.index
