-- The goals of `entry_checks::check_usages_in` that no tactic closes.
use Rattle.std.proofs.Common.{arith}
use Rattle.std.specs.BTreeMap as tree
use Rattle.nr_state.specs.World.{bytes_cmp}
use Rattle.std.specs.Map.{count_at}
use Rattle.nr_blocks.specs.Judging.{states_usage}
use Rattle.std.proofs.lemmas.Result.{err_from_is_err_and}
use Rattle.nr_blocks.proofs.Turns.{each_stops}
use Rattle.nr_blocks.proofs.entry_checks.check_usages_in.Goals as goal

pub returns-in_err-check_usage : goal.returns-in_err-check_usage
returns-in_err-check_usage c =
    let p = err_from_is_err_and c.from_residual.result c.from_residual.ensures.1 in
    rw (p.1, p.2) (λ other. each_stops (states_usage (λ q. count_at (tree.get bytes_cmp c.args.usages.now) q)) c.args.entries.now c.loop-index.index c.index-entries-index.result c.in_err-check_usage.field-0.0 (omega arith) c.index-entries-index.is (c.in_err-check_usage.ensures other) c.loop-index.invariant)
