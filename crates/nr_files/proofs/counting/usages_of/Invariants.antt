-- What holds at the loops of `counting::usages_of`.
use Rattle.std.proofs.Common.{◌≡◌, ◌≤◌, ℕ, List, length, drop, map}
use Rattle.std.specs.BTreeMap as tree
use Rattle.std.specs.Map.{count_at}
use Rattle.nr_state.specs.World.{bytes_cmp}
use Rattle.nr_blocks.specs.Genesis.{usage_in}
use Rattle.nr_files.specs.Filling.{plain}
use Rattle.nr_files.proofs.counting.usages_of.Given as goal

abbrev pub invariant-loop-left : goal.invariant-loop-left
invariant-loop-left l = record {
  within : l.left ≤ length l.entries;
  counted : (q : List ℕ) → count_at (tree.get bytes_cmp l.usages) q ≡ usage_in l.config (map plain (drop l.left l.entries)) q;
}

abbrev pub decreases-loop-left : goal.decreases-loop-left
decreases-loop-left l = l.left
