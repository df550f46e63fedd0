-- What holds at the loops of `waiting::has_repeat`.
use Rattle.std.proofs.Common.{◌≡◌, ◌≤◌, ℕ, List, false, length, drop, map}
use Rattle.std.specs.BTreeSet.{contains}
use Rattle.std.specs.List.{list_any}
use Rattle.std.specs.Str.{bytes_eq}
use Rattle.nr_columns.specs.Orders.{bytes_cmp}
use Rattle.nr_ids.specs.declared.key.Hash32.{Hash32}
use Rattle.nr_state.specs.Repeats.{has_repeat}
use Rattle.nr_worlds.proofs.waiting.has_repeat.Given as goal

abbrev pub invariant-loop-left : goal.invariant-loop-left
invariant-loop-left l = record {
  within : l.left ≤ length l.ids;
  seen : (q : List ℕ) → contains bytes_cmp l.seen q ≡ list_any (bytes_eq q) (map (λ (id : Hash32). id.0) (drop l.left l.ids));
  none : has_repeat (map (λ (id : Hash32). id.0) (drop l.left l.ids)) ≡ false;
}

abbrev pub decreases-loop-left : goal.decreases-loop-left
decreases-loop-left l = l.left
