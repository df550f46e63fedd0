-- The goals of `cutting::cut_below` that no tactic closes.
use Rattle.std.proofs.Common.{◌+◌, ◌*◌, length, None, subst, ◌∙◌, arith}
use Rattle.nr_triedef.specs.Node.{nibbles}
use Rattle.nr_trienodes.specs.Shape.{shape_at}
use Rattle.nr_trienodes.specs.Turns.{StopsSo, left}
use Rattle.nr_trienodes.proofs.Founds.{found_here, found_sprout, found_apart}
use Rattle.nr_trienodes.proofs.Puts.{put_climbed}
use Rattle.nr_trienodes.proofs.Cuts.{cut_here, cut_absent, no_value}
use Rattle.nr_trienodes.proofs.cutting.cut_below.Goals as goal

pub returns-then-is_none-clause-cut : goal.returns-then-is_none-clause-cut
returns-then-is_none-clause-cut c =
    let stops = subst (StopsSo (shape_at c.args.nodes.now c.in_ok-end.end.node) c.args.key.now c.in_ok-end.end.at) c.in-Here.is c.in_ok-end.ensures.stops in
    cut_absent c.args.nodes.now c.args.root c.in_ok-end.end.node (nibbles c.args.key.now) (left c.args.key.now c.in_ok-end.end.at) c.in_ok-end.end.way (2 * length (nibbles c.args.key.now) + 3) c.in_ok-end.ensures.sound c.requires c.in_ok-end.ensures.leads
    (found_here c.args.nodes.now c.in_ok-end.end.node (left c.args.key.now c.in_ok-end.end.at) c.in_ok-end.ensures.sound c.in_ok-end.ensures.there stops ∙ no_value _ c.value.result _ c.is_none.result c.is_none.ensures c.if-is_none.true c.value.ensures)

pub returns-in_ok-id-in-Here-clause-cut : goal.returns-in_ok-id-in-Here-clause-cut
returns-in_ok-id-in-Here-clause-cut c =
    let stops = subst (StopsSo (shape_at c.args.nodes.now c.in_ok-end.end.node) c.args.key.now c.in_ok-end.end.at) c.in-Here.is c.in_ok-end.ensures.stops in
    put_climbed c.args.nodes.now c.replace_value.new.nodes c.climb.new.nodes c.args.root c.in_ok-end.end.node c.in_ok-below-in-Here.below c.in_ok-id-in-Here.id c.in_ok-end.end.way (nibbles c.args.key.now) (left c.args.key.now c.in_ok-end.end.at) None 2 3
    c.in_ok-end.ensures.sound c.replace_value.ensures.grows c.in_ok-end.ensures.leads (cut_here c.args.nodes.now c.replace_value.new.nodes c.in_ok-end.end.node c.in_ok-below-in-Here.below (left c.args.key.now c.in_ok-end.end.at) c.in_ok-end.ensures.sound c.in_ok-end.ensures.there stops c.in_ok-below-in-Here.ensures.settled)
    c.in_ok-id-in-Here.ensures.climbs c.in_ok-end.ensures.short (omega arith)

pub returns-in-Sprout-clause-cut : goal.returns-in-Sprout-clause-cut
returns-in-Sprout-clause-cut c =
    let stops = subst (StopsSo (shape_at c.args.nodes.now c.in_ok-end.end.node) c.args.key.now c.in_ok-end.end.at) c.in-Sprout.is c.in_ok-end.ensures.stops in
    cut_absent c.args.nodes.now c.args.root c.in_ok-end.end.node (nibbles c.args.key.now) (left c.args.key.now c.in_ok-end.end.at) c.in_ok-end.end.way (2 * length (nibbles c.args.key.now) + 3) c.in_ok-end.ensures.sound c.requires c.in_ok-end.ensures.leads
    (found_sprout c.args.nodes.now c.in_ok-end.end.node c.args.key.now c.in_ok-end.end.at _ _ c.in_ok-end.ensures.sound c.in_ok-end.ensures.there stops.0 stops.1)

pub returns-in-Apart-clause-cut : goal.returns-in-Apart-clause-cut
returns-in-Apart-clause-cut c =
    let stops = subst (StopsSo (shape_at c.args.nodes.now c.in_ok-end.end.node) c.args.key.now c.in_ok-end.end.at) c.in-Apart.is c.in_ok-end.ensures.stops in
    cut_absent c.args.nodes.now c.args.root c.in_ok-end.end.node (nibbles c.args.key.now) (left c.args.key.now c.in_ok-end.end.at) c.in_ok-end.end.way (2 * length (nibbles c.args.key.now) + 3) c.in_ok-end.ensures.sound c.requires c.in_ok-end.ensures.leads
    (found_apart c.args.nodes.now c.in_ok-end.end.node c.args.key.now c.in_ok-end.end.at _ c.in_ok-end.ensures.sound c.in_ok-end.ensures.there stops)
