-- The goals of `merging::cut_along` that no tactic closes.
use Rattle.std.proofs.Common.{◌+◌, length, None, false, refl, subst, arith}
use Rattle.nr_triedef.specs.Node.{nibbles}
use Rattle.nr_trienodes.specs.Turns.{left}
use Rattle.nr_trienodes.specs.Opened.{HeadsSo}
use Rattle.nr_trienodes.specs.declared.turn.Stop.{Stop}
use Rattle.nr_trienodes.specs.declared.turn.Turn.TheVariants.{Stops}
use Rattle.nr_trienodes.proofs.Sets.{sets_value}
use Rattle.nr_trienodes.proofs.Moves.{valued, absent, left_le, sprout_absent, apart_absent, stands_here, found_behind}
use Rattle.nr_trienodes.proofs.merging.cut_along.Goals as goal

pub returns-in-Here-clause-cut : goal.returns-in-Here-clause-cut
returns-in-Here-clause-cut c =
    let stops = subst (λ (s : Stop). HeadsSo (length c.args.nodes.now) c.descend.new.way.top c.args.key.now c.descend.new.way.at (Stops s)) c.in-Here.is c.in_ok-descend.ensures.stops in
    let w = c.descend.new.way in
    valued c.args.nodes.now c.args.nodes.now c.args.way.now w _ c.args.key.now None (length (left c.args.key.now c.args.way.now.at)) (length (left c.args.key.now w.at)) (length (nibbles c.args.key.now) + 1) c.in_ok-descend.ensures.steady (omega (arith, left_le c.args.key.now c.args.way.now.at)) c.in_ok-descend.ensures.along
    (sets_value c.args.nodes.now w.top.part w.top.value None w.top.row (left c.args.key.now w.at) stops.0) refl refl refl refl

pub returns-in-Sprout-clause-cut : goal.returns-in-Sprout-clause-cut
returns-in-Sprout-clause-cut c =
    let stops = subst (λ (s : Stop). HeadsSo (length c.args.nodes.now) c.descend.new.way.top c.args.key.now c.descend.new.way.at (Stops s)) c.in-Sprout.is c.in_ok-descend.ensures.stops in
    let w = c.descend.new.way in
    absent c.args.nodes.now c.args.nodes.now c.args.way.now w c.args.key.now (length (left c.args.key.now c.args.way.now.at)) (length (left c.args.key.now w.at)) (length (nibbles c.args.key.now) + 1) c.in_ok-descend.ensures.steady (omega (arith, left_le c.args.key.now c.args.way.now.at)) c.in_ok-descend.ensures.along
    (sprout_absent c.args.nodes.now w.top c.args.key.now w.at c.in-Sprout.nibble c.in-Sprout.next stops.0.0 stops.0.1)

pub returns-in-Apart-clause-cut : goal.returns-in-Apart-clause-cut
returns-in-Apart-clause-cut c =
    let stops = subst (λ (s : Stop). HeadsSo (length c.args.nodes.now) c.descend.new.way.top c.args.key.now c.descend.new.way.at (Stops s)) c.in-Apart.is c.in_ok-descend.ensures.stops in
    let w = c.descend.new.way in
    absent c.args.nodes.now c.args.nodes.now c.args.way.now w c.args.key.now (length (left c.args.key.now c.args.way.now.at)) (length (left c.args.key.now w.at)) (length (nibbles c.args.key.now) + 1) c.in_ok-descend.ensures.steady (omega (arith, left_le c.args.key.now c.args.way.now.at)) c.in_ok-descend.ensures.along
    (apart_absent c.args.nodes.now w.top c.args.key.now w.at c.in-Apart.shared stops.0)

pub returns-in-Here-clause-found : goal.returns-in-Here-clause-found
returns-in-Here-clause-found c =
    let stops = subst (λ (s : Stop). HeadsSo (length c.args.nodes.now) c.descend.new.way.top c.args.key.now c.descend.new.way.at (Stops s)) c.in-Here.is c.in_ok-descend.ensures.stops in
    let w = c.descend.new.way in
    found_behind c.args.nodes.now c.args.nodes.now c.args.way.now w c.args.key.now (length (left c.args.key.now c.args.way.now.at)) (length (left c.args.key.now w.at)) w.top.value c.is_some-found.result c.in_ok-descend.ensures.steady c.in_ok-descend.ensures.along
    (stands_here c.args.nodes.now w.top (left c.args.key.now w.at) stops.0) c.is_some-found.ensures

pub returns-in-Sprout-clause-found : goal.returns-in-Sprout-clause-found
returns-in-Sprout-clause-found c =
    let stops = subst (λ (s : Stop). HeadsSo (length c.args.nodes.now) c.descend.new.way.top c.args.key.now c.descend.new.way.at (Stops s)) c.in-Sprout.is c.in_ok-descend.ensures.stops in
    let w = c.descend.new.way in
    found_behind c.args.nodes.now c.args.nodes.now c.args.way.now w c.args.key.now (length (left c.args.key.now c.args.way.now.at)) (length (left c.args.key.now w.at)) None false c.in_ok-descend.ensures.steady c.in_ok-descend.ensures.along
    (sprout_absent c.args.nodes.now w.top c.args.key.now w.at c.in-Sprout.nibble c.in-Sprout.next stops.0.0 stops.0.1) refl

pub returns-in-Apart-clause-found : goal.returns-in-Apart-clause-found
returns-in-Apart-clause-found c =
    let stops = subst (λ (s : Stop). HeadsSo (length c.args.nodes.now) c.descend.new.way.top c.args.key.now c.descend.new.way.at (Stops s)) c.in-Apart.is c.in_ok-descend.ensures.stops in
    let w = c.descend.new.way in
    found_behind c.args.nodes.now c.args.nodes.now c.args.way.now w c.args.key.now (length (left c.args.key.now c.args.way.now.at)) (length (left c.args.key.now w.at)) None false c.in_ok-descend.ensures.steady c.in_ok-descend.ensures.along
    (apart_absent c.args.nodes.now w.top c.args.key.now w.at c.in-Apart.shared stops.0) refl
