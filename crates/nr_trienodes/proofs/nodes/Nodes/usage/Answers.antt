-- The goals of `nodes::Nodes::usage` that no tactic closes.
use Rattle.std.proofs.Common.{sym, ◌∙◌}
use Rattle.nr_trienodes.proofs.Maps.{usage_of_none, usage_of_some}
use Rattle.nr_trienodes.proofs.nodes.Nodes.usage.Goals as goal

pub returns-in-None : goal.returns-in-None
returns-in-None c = sym (usage_of_none c.args.self.now c.args.root c.in-None.is)

pub returns-in-Some : goal.returns-in-Some
returns-in-Some c = c.usage_at.ensures ∙ sym (usage_of_some c.args.self.now c.args.root c.in-Some.root c.count-count.ensures.sound c.requires c.in-Some.is)
