-- The goals of `block_checks::check_all_heights` that no tactic closes.
use Rattle.std.proofs.Common.{sym, ◌∙◌, arith}
use Rattle.nr_blocks.specs.Judging.{has_height}
use Rattle.std.proofs.lemmas.Result.{err_from_is_err_and}
use Rattle.nr_blocks.proofs.Turns.{each_stops}
use Rattle.nr_blocks.proofs.block_checks.check_all_heights.Goals as goal

pub returns-in_err-check_height : goal.returns-in_err-check_height
returns-in_err-check_height c =
    let p = err_from_is_err_and c.from_residual.result c.from_residual.ensures.1 in
    rw (p.1, p.2) (sym (each_stops (has_height) c.args.blocks.now c.loop-index.index c.index-blocks-index.result c.in_err-check_height.field-0.0 (omega arith) c.index-blocks-index.is (sym c.check_height.ensures ∙ c.in_err-check_height.was) c.loop-index.invariant))
