-- The goals of `nodes::Nodes::find` that no tactic closes.
use Rattle.std.proofs.Common.{sym, ◌∙◌}
use Rattle.nr_trienodes.proofs.Maps.{get_of_none, get_of_some}
use Rattle.nr_trienodes.proofs.nodes.Nodes.find.Goals as goal

pub returns-in-None : goal.returns-in-None
returns-in-None c = get_of_none c.args.self.now c.args.root c.args.key.now c.in-None.is

pub returns-in-Some : goal.returns-in-Some
returns-in-Some c = c.find_below.ensures.value ∙ sym (get_of_some c.args.self.now c.args.root c.in-Some.root c.args.key.now c.find_below.ensures.sound c.requires c.in-Some.is)
