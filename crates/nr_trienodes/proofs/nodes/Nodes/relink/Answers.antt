-- The goals of `nodes::Nodes::relink` that no tactic closes.
use Rattle.std.proofs.Common.{◌<◌, ◌+◌, ◌^◌, ◌∙◌, refl, arith}
use Rattle.nr_trienodes.proofs.Views.{count_view}
use Rattle.nr_trienodes.proofs.Relinks.{relinked}
use Rattle.nr_trienodes.proofs.nodes.Nodes.relink.Goals as goal

pub invariant_of-self-2 : goal.invariant_of-self-2
invariant_of-self-2 c =
    let room : c.count-name.result + 1 < 2 ^ 32 =
    omega (arith, count_view c.self.inside.nodes.items c.args.self.now c.self.view_is) in
    let all =
    relinked c.self.inside.nodes.items c.push.new.self.items c.args.self.now c.args.id c.args.nibble c.args.below
    c.count-name.result _ c.self.view_is c.self.invariant.sound c.requires.there c.requires.below
    c.requires.some c.count-name.ensures.count room c.in_ok-like.ensures.part (c.in_ok-body.ensures.value ∙ c.in_ok-like.ensures.value)
    (c.in_ok-body.ensures.row ∙ c.in_ok-like.ensures.row) refl c.in_ok-usage.ensures
    c.in_ok-push.ensures.items in
    record { sound = all.adds.sound; few = all.few }

pub returns-clause-ok : goal.returns-clause-ok
returns-clause-ok c =
    let room : c.count-name.result + 1 < 2 ^ 32 =
    omega (arith, count_view c.self.inside.nodes.items c.args.self.now c.self.view_is) in
    (relinked c.self.inside.nodes.items c.push.new.self.items c.args.self.now c.args.id c.args.nibble c.args.below
    c.count-name.result _ c.self.view_is c.self.invariant.sound c.requires.there c.requires.below
    c.requires.some c.count-name.ensures.count room c.in_ok-like.ensures.part (c.in_ok-body.ensures.value ∙ c.in_ok-like.ensures.value)
    (c.in_ok-body.ensures.row ∙ c.in_ok-like.ensures.row) refl c.in_ok-usage.ensures
    c.in_ok-push.ensures.items).adds
