-- What holds at the loops of `entry_checks::check_hashes_in`.
use Rattle.std.specs.Prelude.{unwrap_or}
use Rattle.std.specs.BTreeMap as tree
use Rattle.nr_state.specs.Usage.{zero_hash}
use Rattle.nr_state.specs.World.{bytes_cmp}
use Rattle.nr_blocks.specs.Judging.{states_hash}
use Rattle.nr_blocks.proofs.Turns.{IsLeft}
use Rattle.nr_blocks.proofs.entry_checks.check_hashes_in.Given as goal

abbrev pub invariant-loop-index : goal.invariant-loop-index
invariant-loop-index l = IsLeft (states_hash (λ q. unwrap_or (tree.get bytes_cmp l.hashes q) zero_hash)) l.entries l.index
