-- The goals of `making::extension` that no tactic closes.
use Rattle.std.proofs.Common.{ℕ, List, ap, ◌∙◌}
use Rattle.nr_triedef.specs.Node.{summary}
use Rattle.nr_triedef.specs.Root.{extension}
use Rattle.nr_triedef.proofs.making.extension.Goals as goal

pub returns-clause-made : goal.returns-clause-made
returns-clause-made g c =
    c.in_ok-made.ensures.made ∙ ap (λ (part : List ℕ). summary (extension part c.args.below)) (c.written.ensures ∙ c.in_ok-key_part_in.ensures)
