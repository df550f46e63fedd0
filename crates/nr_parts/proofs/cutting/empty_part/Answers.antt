-- The goals of `cutting::empty_part` that no tactic closes.
use Rattle.std.proofs.Common.{refl, ◌∙◌}
use Rattle.nr_parts.proofs.Cuts.{cut_none}
use Rattle.nr_parts.proofs.cutting.empty_part.Goals as goal

pub returns : goal.returns
returns c = cut_none c.args.count c.args.number _ c.of.result c.of-2.result refl (c.of.ensures ∙ c.new.ensures.items) (c.of-2.ensures ∙ c.new-2.ensures.items)
