-- What holds at the loops of `splitting::all_cut`.
use Rattle.std.proofs.Common.{◌≡◌, map}
use Rattle.std.specs.List.{range_with_len}
use Rattle.nr_cut.specs.Cut.{lives_in}
use Rattle.nr_layout.specs.Layout.{out_to}
use Rattle.nr_split.specs.Split.{delayed_of, entries_cut}
use Rattle.nr_split.proofs.splitting.all_cut.Given as goal

abbrev pub invariant-loop-shard : goal.invariant-loop-shard
invariant-loop-shard l =
    l.found.items
    ≡ map (λ s. entries_cut (lives_in l.layout s) l.worlds (out_to l.layout s (delayed_of l.worlds)))
    (range_with_len 0 l.shard)
