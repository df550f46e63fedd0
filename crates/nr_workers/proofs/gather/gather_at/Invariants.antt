-- What holds at the loops of `gather::gather_at`.
use Rattle.std.proofs.Common.{◌≡◌, ◌<◌, ◌≤◌, ◌++◌, ℕ, vec_len}
use Rattle.std.specs.List.{flat_map, range_with_len}
use Rattle.nr_overlap.specs.Outcome.{left_list, left_at}
use Rattle.nr_workers.specs.Left.{slot_in}
use Rattle.nr_workers.proofs.gather.gather_at.Given as goal

abbrev pub invariant-loop-dest : goal.invariant-loop-dest
invariant-loop-dest g l =
    let r = g.P.Phases.rules l.phases in
    record {
      long : vec_len l.lefts ≡ vec_len l.fn.lefts;
      others : (d t h : ℕ) → (t ≡ l.source → h ≡ l.height → ⊥) → slot_in l.lefts.items d t h ≡ slot_in l.fn.lefts.items d t h;
      later : (d : ℕ) → l.dest ≤ d → d < r.shards → slot_in l.lefts.items d l.source l.height ≡ left_list r l.source l.height d;
      added : l.all.items ≡ l.fn.all.items ++ flat_map (left_at r l.source l.height) (range_with_len 0 l.dest);
    }
