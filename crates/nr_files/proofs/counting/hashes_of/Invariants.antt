-- What holds at the loops of `counting::hashes_of`.
use Rattle.std.proofs.Common.{◌≡◌, ◌≤◌, ℕ, List, length, drop, map}
use Rattle.std.specs.Prelude.{unwrap_or}
use Rattle.std.specs.BTreeMap as tree
use Rattle.nr_state.specs.Usage.{zero_hash}
use Rattle.nr_state.specs.World.{bytes_cmp}
use Rattle.nr_blocks.specs.Genesis.{code_hash_in}
use Rattle.nr_files.specs.Filling.{plain}
use Rattle.nr_files.proofs.counting.hashes_of.Given as goal

abbrev pub invariant-loop-left : goal.invariant-loop-left
invariant-loop-left l = record {
  within : l.left ≤ length l.entries;
  hashed : (q : List ℕ) → unwrap_or (tree.get bytes_cmp l.hashes q) zero_hash ≡ code_hash_in (map plain (drop l.left l.entries)) q;
}

abbrev pub decreases-loop-left : goal.decreases-loop-left
decreases-loop-left l = l.left
