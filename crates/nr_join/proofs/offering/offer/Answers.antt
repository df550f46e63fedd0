-- The goals of `offering::offer` that no tactic closes.
use Rattle.std.proofs.Common.{refl, sym, ap, ◌∙◌}
use Rattle.std.specs.Prelude.{is_some}
use Rattle.nr_join.proofs.Cases.{of_actions, of_stored, arrived}
use Rattle.nr_join.proofs.offering.offer.Goals as goal

pub returns-in_default : goal.returns-in_default
returns-in_default g c = of_actions c.offer_actions.result c.args.state.now c.offer_actions.new.state c.args.receipt c.in_default.field-0 c.in_default.is c.offer_actions.ensures

pub returns-then-is_some : goal.returns-then-is_some
returns-then-is_some g c =
    (arrived c.args.state.now.world c.args.receipt c.in-Datum.datum c.in-Datum.is (ap is_some (sym c.in_ok-received.ensures) ∙ sym c.if-is_some.ensures), refl)

pub returns : goal.returns
returns g c =
    of_stored c.store.result c.args.state.now c.store.new.state c.args.receipt c.in-Datum.datum c.in-Datum.is (ap is_some (sym c.in_ok-received.ensures) ∙ sym c.if-is_some.ensures) c.store.ensures
