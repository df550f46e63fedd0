-- The goals of `checks::check_all_chunks` that no tactic closes.
use Rattle.std.proofs.Common.{sym, ◌∙◌, arith}
use Rattle.std.proofs.lemmas.Result.{err_from_is_err_and}
use Rattle.nr_blocks.proofs.Turns.{each_goes_on, each_stops}
use Rattle.nr_reshard.proofs.checks.check_all_chunks.Goals as goal
use Rattle.nr_reshard.specs.Judging.{has_chunks_by, shards_at}

pub returns-in_err-check_chunks : goal.returns-in_err-check_chunks
returns-in_err-check_chunks c =
    let p = err_from_is_err_and c.from_residual.result c.from_residual.ensures.1 in
    rw (p.1, p.2)
    (sym (each_stops (has_chunks_by (shards_at c.args.first c.args.reshard.now)) c.args.blocks.now c.loop-index.index
    c.index-blocks-index.result c.in_err-check_chunks.field-0.0 (omega arith) c.index-blocks-index.is
    (sym (c.check_chunks.ensures c.loop-index.index) ∙ c.in_err-check_chunks.was) c.loop-index.invariant))

pub loop-index-preserved : goal.loop-index-preserved
loop-index-preserved c =
    each_goes_on (has_chunks_by (shards_at c.args.first c.args.reshard.now)) c.args.blocks.now c.loop-index.index
    c.index-blocks-index.result (omega arith) c.index-blocks-index.is
    (sym (c.check_chunks.ensures c.loop-index.index) ∙ c.in_ok-check_chunks.was) c.loop-index.invariant
