-- The goals of `entry_checks::check_hashes_in` that no tactic closes.
use Rattle.std.proofs.Common.{sym, ◌∙◌, arith}
use Rattle.std.specs.BTreeMap as tree
use Rattle.nr_state.specs.World.{bytes_cmp}
use Rattle.std.specs.Prelude.{unwrap_or}
use Rattle.nr_state.specs.Usage.{zero_hash}
use Rattle.nr_blocks.specs.Judging.{states_hash}
use Rattle.std.proofs.lemmas.Result.{err_from_is_err_and}
use Rattle.nr_blocks.proofs.Turns.{each_stops}
use Rattle.nr_blocks.proofs.entry_checks.check_hashes_in.Goals as goal

pub returns-in_err-check_hash : goal.returns-in_err-check_hash
returns-in_err-check_hash c =
    let p = err_from_is_err_and c.from_residual.result c.from_residual.ensures.1 in
    rw (p.1, p.2) (sym (each_stops (states_hash (λ q. unwrap_or (tree.get bytes_cmp c.args.hashes.now q) zero_hash)) c.args.entries.now c.loop-index.index c.index-entries-index.result c.in_err-check_hash.field-0.0 (omega arith) c.index-entries-index.is (sym c.check_hash.ensures ∙ c.in_err-check_hash.was) c.loop-index.invariant))
