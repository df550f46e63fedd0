-- What holds at the loops of `closing::add_lists`.
use Rattle.std.proofs.Common.{◌≡◌, ◌<◌, ◌≤◌, ◌++◌, ℕ}
use Rattle.std.specs.List.{flat_map, range_with_len}
use Rattle.nr_overlap.specs.Held.{cell}
use Rattle.nr_overlap.specs.Outcome.{left_list, left_at}
use Rattle.nr_overlap.proofs.closing.add_lists.Given as goal

abbrev pub invariant-loop-dest : goal.invariant-loop-dest
invariant-loop-dest g l =
    let r = g.P.Phases.rules l.phases in
    record {
      later : (d : ℕ) → l.dest ≤ d → d < r.shards → cell l.lists.items d ≡ left_list r l.source l.height d;
      added : l.all.items ≡ l.fn.all.items ++ flat_map (left_at r l.source l.height) (range_with_len 0 l.dest);
    }
