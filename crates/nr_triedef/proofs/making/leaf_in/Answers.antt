-- The goals of `making::leaf_in` that no tactic closes.
use Rattle.std.proofs.Common.{ℕ, List, ap, ◌∙◌}
use Rattle.nr_triedef.specs.Node.{summary}
use Rattle.nr_triedef.specs.Root.{leaf_with}
use Rattle.nr_triedef.proofs.making.leaf_in.Goals as goal

pub returns-clause-made : goal.returns-clause-made
returns-clause-made g c =
    c.in_ok-made.ensures.made ∙ ap (λ (part : List ℕ). summary (leaf_with part c.args.value.now)) (c.written.ensures ∙ c.in_ok-key_part_in.ensures)
