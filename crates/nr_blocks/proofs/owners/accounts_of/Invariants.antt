-- What holds at the loops of `owners::accounts_of`.
use Rattle.std.proofs.Common.{◌≡◌, ◌≤◌, ℕ, List, length, drop}
use Rattle.std.specs.BTreeSet.{contains}
use Rattle.nr_state.specs.World.{bytes_cmp}
use Rattle.nr_blocks.specs.Genesis.{is_account}
use Rattle.nr_blocks.proofs.owners.accounts_of.Given as goal

abbrev pub invariant-loop-left : goal.invariant-loop-left
invariant-loop-left l = record {
  within : l.left ≤ length l.entries;
  known : (q : List ℕ) → contains bytes_cmp l.accounts q ≡ is_account (drop l.left l.entries) q;
}

abbrev pub decreases-loop-left : goal.decreases-loop-left
decreases-loop-left l = l.left
