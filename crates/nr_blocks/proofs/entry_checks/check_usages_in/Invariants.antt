-- What holds at the loops of `entry_checks::check_usages_in`.
use Rattle.std.specs.BTreeMap as tree
use Rattle.std.specs.Map.{count_at}
use Rattle.nr_state.specs.World.{bytes_cmp}
use Rattle.nr_blocks.specs.Judging.{states_usage}
use Rattle.nr_blocks.proofs.Turns.{IsLeft}
use Rattle.nr_blocks.proofs.entry_checks.check_usages_in.Given as goal

abbrev pub invariant-loop-index : goal.invariant-loop-index
invariant-loop-index l = IsLeft (states_usage (λ q. count_at (tree.get bytes_cmp l.usages) q)) l.entries l.index
