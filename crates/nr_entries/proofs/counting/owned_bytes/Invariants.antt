-- What holds at the loops of `counting::owned_bytes`.
use Rattle.std.proofs.Common.{◌≡◌, ◌≤◌, ℕ, List, length, drop}
use Rattle.std.specs.BTreeMap as tree
use Rattle.std.specs.Map.{count_at}
use Rattle.nr_columns.specs.Orders.{bytes_cmp}
use Rattle.nr_entries.specs.Counting.{owned_bytes}
use Rattle.nr_entries.proofs.counting.owned_bytes.Given as goal

abbrev pub invariant-loop-left : goal.invariant-loop-left
invariant-loop-left l = record {
  within : l.left ≤ length l.entries;
  counted : (q : List ℕ) → count_at (tree.get bytes_cmp l.counts) q ≡ owned_bytes l.extra (drop l.left l.entries) q;
}

abbrev pub decreases-loop-left : goal.decreases-loop-left
decreases-loop-left l = l.left
