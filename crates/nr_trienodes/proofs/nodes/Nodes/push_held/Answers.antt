-- The goals of `nodes::Nodes::push_held` that no tactic closes.
use Rattle.std.proofs.Common.{◌∙◌, ◌<◌, ◌+◌, ◌^◌, ap, refl, List, arith}
use Rattle.std.specs.Prelude.{ℕ}
use Rattle.nr_trienodes.specs.Tries.{own_usage}
use Rattle.nr_trienodes.proofs.Views.{pushed, count_view}
use Rattle.nr_trienodes.proofs.nodes.Nodes.push_held.Goals as goal

pub invariant_of-self-2 : goal.invariant_of-self-2
invariant_of-self-2 c =
    let room : c.count-id.result + 1 < 2 ^ 32 =
    omega (arith, count_view c.self.inside.nodes.items c.args.self.now c.self.view_is) in
    let all =
    (pushed c.self.inside.nodes.items c.push.new.self.items c.args.self.now c.count-id.result _ c.args.part
    c.args.value c.args.row c.in_ok-below.below c.is_alone-alone.result c.self.view_is
    c.self.invariant.sound c.count-id.ensures.count room refl refl c.in_ok-body.ensures.value
    c.in_ok-body.ensures.row c.of.ensures.sixteen c.requires.small c.requires.linked c.requires.back
    c.in_ok-below.ensures c.is_alone-alone.ensures
    (c.in_ok-usage.ensures
    ∙ ap (λ (p : List ℕ). own_usage p c.args.value c.is_alone-alone.result c.in_ok-below.below)
    c.as_slice-front.ensures)
    c.in_ok-push.ensures.items) in
    record { sound = all.adds.sound; few = all.few }

pub returns-clause-ok : goal.returns-clause-ok
returns-clause-ok c =
    let room : c.count-id.result + 1 < 2 ^ 32 =
    omega (arith, count_view c.self.inside.nodes.items c.args.self.now c.self.view_is) in
    (pushed c.self.inside.nodes.items c.push.new.self.items c.args.self.now c.count-id.result _ c.args.part
    c.args.value c.args.row c.in_ok-below.below c.is_alone-alone.result c.self.view_is
    c.self.invariant.sound c.count-id.ensures.count room refl refl c.in_ok-body.ensures.value
    c.in_ok-body.ensures.row c.of.ensures.sixteen c.requires.small c.requires.linked c.requires.back
    c.in_ok-below.ensures c.is_alone-alone.ensures
    (c.in_ok-usage.ensures
    ∙ ap (λ (p : List ℕ). own_usage p c.args.value c.is_alone-alone.result c.in_ok-below.below)
    c.as_slice-front.ensures)
    c.in_ok-push.ensures.items).adds
