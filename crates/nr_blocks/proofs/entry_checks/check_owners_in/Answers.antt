-- The goals of `entry_checks::check_owners_in` that no tactic closes.
use Rattle.std.proofs.Common.{sym, arith}
use Rattle.nr_blocks.specs.Genesis.{owner}
use Rattle.nr_blocks.specs.Judging.{has_owner}
use Rattle.nr_blocks.proofs.Entries.{not_owned}
use Rattle.nr_blocks.proofs.Turns.{each_stops}
use Rattle.nr_blocks.proofs.entry_checks.check_owners_in.Goals as goal

pub returns-then-not-is_owned : goal.returns-then-not-is_owned
returns-then-not-is_owned c =
    let es = c.args.entries.now in
    let n = c.loop-index.index in
    let e = c.index-entries-index.result in
    sym (each_stops (has_owner es) es n e _ (omega arith) c.index-entries-index.is (not_owned es n e _ _ c.is_owned.ensures (c.requires (owner e)) c.if-not-is_owned.true) c.loop-index.invariant)
