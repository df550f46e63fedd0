-- The goals of `listings::postponed` that no tactic closes.
use Rattle.std.proofs.Common.{ap, ◌∙◌}
use Rattle.nr_state.proofs.ShownWorlds.{receivers_named}
use Rattle.nr_state.proofs.listings.postponed.Goals as goal

pub postponed_receipts-requires : goal.postponed_receipts-requires
postponed_receipts-requires g c = receivers_named _ (c.state.invariant.here (ap (λ s. s.whole) c.state.view_is ∙ c.requires)).fits
