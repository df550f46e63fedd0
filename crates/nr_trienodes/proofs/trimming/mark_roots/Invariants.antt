-- What holds at the loops of `trimming::mark_roots`.
use Rattle.std.proofs.Common.{take}
use Rattle.nr_trienodes.specs.Naming.{RootsMarked}
use Rattle.nr_trienodes.proofs.trimming.mark_roots.Given as goal

abbrev pub invariant-loop-root : goal.invariant-loop-root
invariant-loop-root l = RootsMarked l.nodes (take l.root-index l.roots) l.initial.names l.names
