-- The goals of `splitting::cut_at` that no tactic closes.
use Rattle.std.proofs.Common.{◌≡◌, ◌+◌, List, length, get_or, subst, ap, ◌∙◌, arith}
use Rattle.std.specs.Prelude.{IfOk}
use Rattle.nr_cut.specs.Cut.{lives_in}
use Rattle.nr_layout.proofs.Parts.{length_parts}
use Rattle.nr_records.specs.declared.receipt.Receipt.{Receipt}
use Rattle.nr_split.proofs.Steps.{part_at}
use Rattle.nr_split.proofs.splitting.cut_at.Goals as goal
use Rattle.nr_split.specs.Split.{delayed_of, entries_cut}

pub bounds-lists-shard : goal.bounds-lists-shard
bounds-lists-shard c =
    omega (
      arith,
      ap length c.requires.lists,
      length_parts c.args.layout.now (length c.args.layout.now + 1) (delayed_of c.args.worlds.now),
      c.requires.inside,
    )

pub returns : goal.returns
returns c =
    subst
    (λ (d : List Receipt). IfOk c.cut_world.result
    (λ found. found ≡ entries_cut (lives_in c.args.layout.now c.args.shard) c.args.worlds.now d))
    (c.inner.ensures ∙ c.index-lists-shard.is
    ∙ ap (λ (l : List (List Receipt)). get_or l c.args.shard c.index-lists-shard.result) c.requires.lists
    ∙ part_at c.args.layout.now (length c.args.layout.now + 1) (delayed_of c.args.worlds.now) c.args.shard
    c.index-lists-shard.result c.requires.inside)
    c.cut_world.ensures
