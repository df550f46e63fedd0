-- The goals of `tally::held_by` that no tactic closes.
use Rattle.std.proofs.Common.{sym, ap, subst, ◌∙◌, ◌≤◌, ◌^◌}
use Rattle.std.specs.Option.{option_copied}
use Rattle.nr_chunk.specs.Chain.{AreBounded, IsCountable, working_tokens}
use Rattle.nr_state.specs.Valid.{IsValidWorld}
use Rattle.nr_schedule.proofs.Standing.{countable, countable_world}
use Rattle.nr_schedule.proofs.tally.held_by.Goals as goal

pub tally_world-requires : goal.tally_world-requires
tally_world-requires g c =
    subst (λ p. IsCountable p.config c.in-Some.world.now) (sym c.phases.ensures) (countable_world c.args.core.now c.requires.moment c.args.shard.0 c.in-Some.world.now c.requires.inside (sym c.world.ensures ∙ ap (λ o. option_copied o) c.in-Some.is))

pub tally_working-requires-clause-whole : goal.tally_working-requires-clause-whole
tally_working-requires-clause-whole g c =
    (countable c.args.core.now c.requires.moment c.args.shard.0 c.in-Some-working.working.now c.requires.inside (sym c.working.ensures ∙ ap (λ o. option_copied o) c.in-Some-working.is)).whole

pub tally_working-requires-clause-valid : goal.tally_working-requires-clause-valid
tally_working-requires-clause-valid g c =
    subst (λ p. IsValidWorld p.config c.in-Some-working.working.now.world) (sym c.phases-in-Some-working.ensures)
    (countable c.args.core.now c.requires.moment c.args.shard.0 c.in-Some-working.working.now c.requires.inside (sym c.working.ensures ∙ ap (λ o. option_copied o) c.in-Some-working.is)).valid

pub tally_working-requires-clause-bounded : goal.tally_working-requires-clause-bounded
tally_working-requires-clause-bounded g c =
    subst (λ p. AreBounded p.config c.in-Some-working.working.now.outgoing) (sym c.phases-in-Some-working.ensures)
    (countable c.args.core.now c.requires.moment c.args.shard.0 c.in-Some-working.working.now c.requires.inside (sym c.working.ensures ∙ ap (λ o. option_copied o) c.in-Some-working.is)).bounded

pub tally_working-requires-clause-room : goal.tally_working-requires-clause-room
tally_working-requires-clause-room g c =
    subst (λ p. working_tokens p.config c.in-Some-working.working.now ≤ 2 ^ 127) (sym c.phases-in-Some-working.ensures)
    (countable c.args.core.now c.requires.moment c.args.shard.0 c.in-Some-working.working.now c.requires.inside (sym c.working.ensures ∙ ap (λ o. option_copied o) c.in-Some-working.is)).room
