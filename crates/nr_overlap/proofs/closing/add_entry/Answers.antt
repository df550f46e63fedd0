-- The goals of `closing::add_entry` that no tactic closes.
use Rattle.nr_overlap.proofs.Last.{none_sealed}
use Rattle.nr_overlap.proofs.closing.add_entry.Goals as goal

pub returns-in-None-clause-added : goal.returns-in-None-clause-added
returns-in-None-clause-added g c = none_sealed (g.P.Phases.rules c.args.phases.now) c.args.source c.args.height c.args.entry c.args.all.now.items c.in-None.is c.requires.lists
