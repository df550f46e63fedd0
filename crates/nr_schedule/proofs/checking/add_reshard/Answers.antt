-- The goals of `checking::add_reshard` that no tactic closes.
use Rattle.std.proofs.Common.{◌≡◌, Some, None, ◌≤◌, ◌++◌, length, sym, ap, subst, ◌∙◌}
use Rattle.nr_chunk.specs.Chain.{rules_of}
use Rattle.nr_chunk.specs.Runs.{chain_in}
use Rattle.nr_schedule.specs.Checking.{refused_line, true_height}
use Rattle.nr_schedule.specs.Driving.{standing_of}
use Rattle.nr_schedule.proofs.Drives.{same_driven, same_stand}
use Rattle.nr_schedule.proofs.Onward.{behind_turns, none_turns, over_turns}
use Rattle.nr_schedule.proofs.Within.{behind_within}
use Rattle.nr_schedule.proofs.checking.add_reshard.Goals as goal

-- ---- no change of boundaries is left
pub returns-in_ok-add_refusal-in-None-clause-driven : goal.returns-in_ok-add_refusal-in-None-clause-driven
returns-in_ok-add_refusal-in-None-clause-driven g c = same_driven c.args.driven None c.add_refusal.new.text c.requires c.in-None.is

pub returns-in_ok-add_refusal-in-None-clause-standing : goal.returns-in_ok-add_refusal-in-None-clause-standing
returns-in_ok-add_refusal-in-None-clause-standing g c =
    none_turns (standing_of c.args.driven) _ c.in-None.is
    (same_stand c.args.driven None c.add_refusal.new.text (refused_line 6 0 0) c.in-None.is c.in_ok-add_refusal-in-None.ensures)

-- ---- a shard is behind
pub true_height-height-requires : goal.true_height-height-requires
true_height-height-requires g c =
    subst (λ p. c.in-Some-behind.height.0 ≤ length p.blocks) (sym c.phases.ensures)
    (behind_within (rules_of (chain_in c.args.driven.core.phases)) c.args.driven.core.positions (c.in-Some-behind.shard, c.in-Some-behind.height) c.requires.moment.reached
    (sym c.behind.ensures.is ∙ c.in-Some-behind.is))

pub returns-in_ok-add_refusal-in-Some-behind-clause-driven : goal.returns-in_ok-add_refusal-in-Some-behind-clause-driven
returns-in_ok-add_refusal-in-Some-behind-clause-driven g c =
    same_driven c.args.driven (Some c.in-Some.turn) c.add_refusal-in-Some-behind.new.text c.requires c.in-Some.is

pub returns-in_ok-add_refusal-in-Some-behind-clause-standing : goal.returns-in_ok-add_refusal-in-Some-behind-clause-standing
returns-in_ok-add_refusal-in-Some-behind-clause-standing g c =
    let a = c.args.driven in
    let shard : c.from.result ≡ c.in-Some-behind.shard.0 = c.from.ensures in
    let height : c.true_height-height.result ≡ true_height (chain_in a.core.phases) c.in-Some-behind.height.0 =
    c.true_height-height.ensures ∙ ap (λ p. true_height (chain_in p) c.in-Some-behind.height.0) c.phases.ensures in
    behind_turns (standing_of a) _ c.in-Some.turn (c.in-Some-behind.shard, c.in-Some-behind.height) c.in-Some.is (sym c.behind.ensures.is ∙ c.in-Some-behind.is)
    (same_stand a (Some c.in-Some.turn) c.add_refusal-in-Some-behind.new.text (refused_line 5 c.in-Some-behind.shard.0 (true_height (chain_in a.core.phases) c.in-Some-behind.height.0)) c.in-Some.is
    (c.in_ok-add_refusal-in-Some-behind.ensures ∙ (λ i. a.text ++ refused_line 5 (shard i) (height i))))

-- ---- the change comes
pub crossed-requires-clause-can : goal.crossed-requires-clause-can
crossed-requires-clause-can g c = c.requires.turns c.in-Some.turn c.in-Some.is

pub crossed-requires-clause-supply : goal.crossed-requires-clause-supply
crossed-requires-clause-supply g c = c.requires.supply c.in-Some.turn c.in-Some.is

pub returns-in_ok-after-in-None-behind-clause-standing : goal.returns-in_ok-after-in-None-behind-clause-standing
returns-in_ok-after-in-None-behind-clause-standing g c =
    over_turns (standing_of c.args.driven) (standing_of c.in_ok-after-in-None-behind.after) c.in-Some.turn c.in-Some.is (sym c.behind.ensures.is ∙ c.in-None-behind.is)
    c.in_ok-after-in-None-behind.ensures.standing
