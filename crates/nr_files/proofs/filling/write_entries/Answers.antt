-- The goals of `filling::write_entries` that no tactic closes.
use Rattle.std.proofs.Common.{arith}
use Rattle.std.specs.Prelude.{unwrap_or}
use Rattle.std.specs.BTreeMap as tree
use Rattle.std.specs.Map.{count_at}
use Rattle.nr_state.specs.Usage.{zero_hash}
use Rattle.nr_state.specs.World.{bytes_cmp}
use Rattle.nr_files.specs.Filling.{filled_entry}
use Rattle.nr_files.proofs.Sums.{written_more}
use Rattle.nr_files.proofs.filling.write_entries.Goals as goal

pub loop-index-preserved : goal.loop-index-preserved
loop-index-preserved c =
    written_more (filled_entry (λ q. count_at (tree.get bytes_cmp c.args.usages.now) q) (λ q. unwrap_or (tree.get bytes_cmp c.args.hashes.now q) zero_hash)) c.args.entries.now
    c.loop-index.index c.index-entries-index.result _ _ _ (omega arith) c.index-entries-index.is c.loop-index.invariant c.in_ok-write_entry.ensures
