-- The goals of `checking::add_step` that no tactic closes.
use Rattle.std.proofs.Common.{◌++◌, refl, sym, ap, ◌∙◌}
use Rattle.nr_chunk.specs.Chain.{rules_of}
use Rattle.nr_chunk.specs.Runs.{chain_in}
use Rattle.nr_schedule.specs.Checking.{refused_line}
use Rattle.nr_schedule.specs.Driving.{standing_of}
use Rattle.nr_schedule.proofs.Drives.{on_any, on_one, same_driven, same_stand, step_inside}
use Rattle.nr_schedule.proofs.Onward.{step_made, step_unknown}
use Rattle.nr_schedule.proofs.checking.add_step.Goals as goal

pub add_event-requires-clause-inside : goal.add_event-requires-clause-inside
add_event-requires-clause-inside g c =
    step_inside c.args.driven.now.core.phases c.phases-then-names_there.result.now c.shards-shards.result c.args.event c.in_leg-step.result
    c.phases-then-names_there.ensures (c.shards-shards.ensures.count ∙ ap (λ p. (rules_of (chain_in p)).shards) c.phases.ensures)
    (sym c.names_there.ensures ∙ c.if-names_there.true) c.in_leg-step.ensures

pub returns-then-names_there-clause-standing : goal.returns-then-names_there-clause-standing
returns-then-names_there-clause-standing g c =
    on_one c.add_event.result _ _ c.add_event.ensures.standing (λ made.
    step_made (standing_of c.args.driven.now) (standing_of c.add_event.new.driven) c.shards-shards.result (chain_in c.phases-then-names_there.result.now) c.args.event c.in_leg-step.result
    (c.shards-shards.ensures.count ∙ ap (λ p. (rules_of (chain_in p)).shards) c.phases.ensures) (sym c.names_there.ensures ∙ c.if-names_there.true)
    (ap (λ p. chain_in p) c.phases-then-names_there.ensures) c.in_leg-step.ensures made)

pub returns-else-names_there-clause-driven : goal.returns-else-names_there-clause-driven
returns-else-names_there-clause-driven g c =
    let a = c.args.driven.now in
    on_any c.add_refusal.result _ (same_driven a a.turn c.add_refusal.new.text c.requires.driven refl)

pub returns-else-names_there-clause-standing : goal.returns-else-names_there-clause-standing
returns-else-names_there-clause-standing g c =
    let a = c.args.driven.now in
    on_one c.add_refusal.result _ _ c.add_refusal.ensures (λ told.
    step_unknown (standing_of a) (standing_of (record a { text = c.add_refusal.new.text })) c.shards-shards.result c.args.event
    (c.shards-shards.ensures.count ∙ ap (λ p. (rules_of (chain_in p)).shards) c.phases.ensures) (sym c.names_there.ensures ∙ c.if-names_there.false)
    (same_stand a a.turn c.add_refusal.new.text (refused_line 7 c.shards-shards.result 0) refl (told ∙ ap (λ k. a.text ++ refused_line 7 k 0) c.from.ensures)))
