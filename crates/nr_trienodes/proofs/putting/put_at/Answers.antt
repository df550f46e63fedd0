-- The goals of `putting::put_at` that no tactic closes.
use Rattle.std.proofs.Common.{subst}
use Rattle.nr_trienodes.specs.Shape.{shape_at}
use Rattle.nr_trienodes.specs.Turns.{StopsSo, left}
use Rattle.nr_trienodes.proofs.Puts.{put_here, put_sprout}
use Rattle.nr_trienodes.proofs.putting.put_at.Goals as goal

pub returns-in_ok-valued-in-Here-clause-put : goal.returns-in_ok-valued-in-Here-clause-put
returns-in_ok-valued-in-Here-clause-put c =
    put_here c.args.nodes.now c.replace_value.new.nodes c.args.node c.in_ok-valued-in-Here.valued (left c.args.key.now c.args.at) c.args.value c.count-count.ensures.sound c.requires.node
    (subst (StopsSo (shape_at c.args.nodes.now c.args.node) c.args.key.now c.args.at) c.in-Here.is c.requires.stop) c.in_ok-valued-in-Here.ensures.settled

pub returns-in_ok-grown-in-Sprout-clause-put : goal.returns-in_ok-grown-in-Sprout-clause-put
returns-in_ok-grown-in-Sprout-clause-put c =
    let by = subst (StopsSo (shape_at c.args.nodes.now c.args.node) c.args.key.now c.args.at) c.in-Sprout.is c.requires.stop in
    put_sprout c.args.nodes.now c.sprout.new.nodes c.replace_child.new.nodes c.args.node c.in-Sprout.nibble c.in_ok-leaf-in-Sprout.leaf c.in_ok-grown-in-Sprout.grown (left c.args.key.now c.args.at) (left c.args.key.now c.in-Sprout.next) c.args.value
    c.count-count.ensures.sound c.requires.node by.0.small by.0.part by.1 c.sprout.ensures.grows c.in_ok-leaf-in-Sprout.ensures.leaf c.in_ok-grown-in-Sprout.ensures.settled
