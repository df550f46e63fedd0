-- What holds at the loops of `apart::are_ids_apart`.
use Rattle.std.proofs.Common.{◌≡◌, ◌≤◌, ℕ, List, true, length, drop}
use Rattle.std.specs.BTreeSet.{contains}
use Rattle.nr_state.specs.World.{bytes_cmp}
use Rattle.nr_blocks.specs.Apart.{AreValid, are_new}
use Rattle.nr_blocks.specs.Genesis.{is_account}
use Rattle.nr_blocks.proofs.apart.are_ids_apart.Given as goal

abbrev pub invariant-loop-left : goal.invariant-loop-left
invariant-loop-left l = record {
  within : l.left ≤ length l.entries;
  known : (q : List ℕ) → contains bytes_cmp l.ids q ≡ is_account (drop l.left l.entries) q;
  valid : AreValid (drop l.left l.entries);
  apart : are_new (drop l.left l.entries) ≡ true;
}

abbrev pub decreases-loop-left : goal.decreases-loop-left
decreases-loop-left l = l.left
