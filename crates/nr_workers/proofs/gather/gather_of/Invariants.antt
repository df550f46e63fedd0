-- What holds at the loops of `gather::gather_of`.
use Rattle.std.proofs.Common.{◌≡◌, ◌<◌, ◌≤◌, ◌++◌, ℕ, vec_len}
use Rattle.std.specs.List.{flat_map, range_with_len}
use Rattle.nr_overlap.specs.Outcome.{left_list, left_by_height}
use Rattle.nr_workers.specs.Left.{slot_in}
use Rattle.nr_workers.proofs.gather.gather_of.Given as goal

abbrev pub invariant-loop-before : goal.invariant-loop-before
invariant-loop-before g l =
    let r = g.P.Phases.rules l.phases in
    record {
      long : vec_len l.lefts ≡ vec_len l.fn.lefts;
      others : (d t h : ℕ) → (t ≡ l.source → ⊥) → slot_in l.lefts.items d t h ≡ slot_in l.fn.lefts.items d t h;
      later : (d h : ℕ) → d < r.shards → l.before < h → h ≤ r.heights → slot_in l.lefts.items d l.source h ≡ left_list r l.source h d;
      added : l.all.items ≡ l.fn.all.items ++ flat_map (left_by_height r l.source) (range_with_len 1 l.before);
    }
