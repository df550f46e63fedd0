-- The goals of `explaining::explain_item` that no tactic closes.
use Rattle.std.proofs.Common.{sym, ◌∙◌}
use Rattle.nr_outproof.proofs.FalseProofs.{item_is_there}
use Rattle.nr_outproof.proofs.explaining.explain_item.Goals as goal

pub unreachable-requires : goal.unreachable-requires
unreachable-requires c = item_is_there _ _ _ c.requires.accepted c.requires.same (sym c.in_ok-item.ensures ∙ c.in_default.is)
