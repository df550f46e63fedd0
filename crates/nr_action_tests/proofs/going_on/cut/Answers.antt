-- The goals of `going_on::cut` that no tactic closes.
use Rattle.std.proofs.Common.{[], ◌∷◌, ap, ◌∙◌}
use Rattle.nr_records.specs.declared.receipt.Receipt.{Receipt}
use Rattle.nr_action_tests.proofs.Starting.{is_sound}
use Rattle.nr_action_tests.proofs.going_on.cut.Goals as goal

pub returns-clause-sound : goal.returns-clause-sound
returns-clause-sound c =
    is_sound c.args.config.now c.in_ok-bob.bob c.args.id _ c.in_ok-entries.entries c.in_ok-layout.ensures
    c.in_ok-entries.ensures.whole c.in_ok-entries.ensures.world c.in_ok-worlds.ensures
    (c.in_ok-carried.ensures ∙ ap (λ (r : Receipt). (r ∷ []) ∷ []) c.in_ok-refund.ensures)
