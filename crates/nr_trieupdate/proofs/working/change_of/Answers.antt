-- The goals of `working::change_of` that no tactic closes.
use Rattle.std.proofs.Common.{ap, ◌∙◌}
use Rattle.nr_trieupdate.specs.Overlays.{kept}
use Rattle.nr_trieupdate.proofs.working.change_of.Goals as goal

pub returns : goal.returns
returns c = c.of.ensures ∙ (λ i. (c.key.ensures i, (c.value_in.ensures ∙ ap kept c.value.ensures) i))
