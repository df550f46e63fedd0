-- The goals of `cutting::cut_part` that no tactic closes.
use Rattle.nr_parts.proofs.Agreed.{cut_fine}
use Rattle.nr_parts.proofs.cutting.cut_part.Goals as goal

pub returns-clause-accepted : goal.returns-clause-accepted
returns-clause-accepted c = cut_fine c.args.entries.now c.args.count c.args.number c.cut_of.result c.requires.count.0 c.requires.count.1 c.requires.number c.cut_of.ensures
