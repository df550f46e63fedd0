-- The goals of `making::inner` that no tactic closes.
use Rattle.std.proofs.Common.{sym, ap, ◌∙◌, List, Option, ℕ, map}
use Rattle.nr_triedef.specs.Node.{summary}
use Rattle.nr_triedef.specs.Root.{branch, with_front}
use Rattle.std.specs.Option.{option_map}
use Rattle.nr_trienodes.specs.Shape.{shape_at}
use Rattle.nr_trienodes.specs.Tries.{summary_at}
use Rattle.nr_trienodes.proofs.Hashed.{warm_row, inner_is}
use Rattle.nr_trienodes.proofs.making.inner.Goals as goal

pub summaries-below-requires : goal.summaries-below-requires
summaries-below-requires g c = warm_row c.args.nodes.now c.args.id c.row-row.result c.allocator-alloc.ensures c.requires.there c.requires.hashes c.row-row.ensures

pub returns-clause-made : goal.returns-clause-made
returns-clause-made g c =
    let below = c.summaries-below.ensures.made ∙ ap (λ (r : List (Option ℕ)). map (option_map (summary_at c.args.nodes.now)) r) c.row-row.ensures in
    c.in_ok-made.ensures.made ∙ (λ i. with_front (c.part.ensures i) (c.in_ok-top.ensures.made i)) ∙ (λ i. with_front (shape_at c.args.nodes.now c.args.id).part (summary (branch (c.value.ensures i) (below i)))) ∙ sym (inner_is c.args.nodes.now c.args.id c.allocator-alloc.ensures c.requires.there c.requires.leaf)
