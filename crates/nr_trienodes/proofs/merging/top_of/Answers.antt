-- The goals of `merging::top_of` that no tactic closes.
use Rattle.nr_trienodes.proofs.Moves.{top_some}
use Rattle.nr_trienodes.proofs.merging.top_of.Goals as goal

pub returns-in_ok-node-in-Some : goal.returns-in_ok-node-in-Some
returns-in_ok-node-in-Some c = top_some c.args.nodes.now c.args.root c.in-Some.id c.in_ok-node-in-Some.node c.count-count.ensures.sound c.requires c.in-Some.is c.in_ok-node-in-Some.ensures.opened
