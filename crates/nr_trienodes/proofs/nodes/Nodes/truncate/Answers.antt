-- The goals of `nodes::Nodes::truncate` that no tactic closes.
use Rattle.nr_trienodes.proofs.Views.{cut_view}
use Rattle.nr_trienodes.proofs.nodes.Nodes.truncate.Goals as goal

pub invariant_of-self : goal.invariant_of-self
invariant_of-self c = let cut = cut_view c.self.inside.nodes.items c.truncate.new.self.items c.args.self.now c.args.count c.self.view_is c.self.invariant.sound c.self.invariant.few c.truncate.ensures.items in record { sound = cut.sound; few = cut.few }

pub returns : goal.returns
returns c = (cut_view c.self.inside.nodes.items c.truncate.new.self.items c.args.self.now c.args.count c.self.view_is c.self.invariant.sound c.self.invariant.few c.truncate.ensures.items).is
