-- What holds at the loops of `merging::merge_from`.
use Rattle.std.proofs.Common.{take}
use Rattle.nr_trienodes.proofs.Merged.{Merging}
use Rattle.nr_trienodes.proofs.merging.merge_from.Given as goal

abbrev pub invariant-loop-change : goal.invariant-loop-change
invariant-loop-change l = Merging l.fn.nodes l.nodes l.fn.root (take l.change-index l.changes) l.last l.way l.fn.count l.count
