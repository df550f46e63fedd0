-- The goals of `cutting::cut_of` that no tactic closes.
use Rattle.std.proofs.Common.{List, ℕ, sym, ap, ◌∙◌}
use Rattle.nr_columns.specs.Entries.{pairs_of}
use Rattle.nr_parts.specs.Cutting.{part_cut}
use Rattle.nr_parts.proofs.Cuts.{no_pairs}
use Rattle.nr_parts.proofs.cutting.cut_of.Goals as goal

pub returns-in-None : goal.returns-in-None
returns-in-None c = c.empty_part.ensures ∙ ap (λ (es : List (List ℕ × List ℕ)). part_cut es c.args.count c.args.number) (sym (no_pairs c.inner.result.now c.in_ok-top.ensures.order (sym c.in-None.is ∙ c.in_ok-top.ensures.top)) ∙ ap pairs_of c.inner.ensures)
