-- What holds at the loops of `gather::gather`.
use Rattle.std.proofs.Common.{◌≡◌, ◌<◌, ◌≤◌, ℕ, vec_len}
use Rattle.std.specs.List.{flat_map, range_with_len}
use Rattle.nr_overlap.specs.Outcome.{left_list, left_by_source}
use Rattle.nr_workers.specs.Left.{slot_in}
use Rattle.nr_workers.proofs.gather.gather.Given as goal

abbrev pub invariant-loop-source : goal.invariant-loop-source
invariant-loop-source g l =
    let r = g.P.Phases.rules l.phases in
    record {
      long : vec_len l.lefts ≡ vec_len l.fn.lefts;
      later : (d t h : ℕ) → d < r.shards → l.source ≤ t → t < r.shards → h ≤ r.heights → slot_in l.lefts.items d t h ≡ left_list r t h d;
      added : l.all.items ≡ flat_map (left_by_source r) (range_with_len 0 l.source);
    }
