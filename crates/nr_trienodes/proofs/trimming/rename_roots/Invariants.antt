-- What holds at the loops of `trimming::rename_roots`.
use Rattle.std.proofs.Common.{◌≡◌, ◌++◌, map, take, drop}
use Rattle.nr_trienodes.specs.Naming.{new_root}
use Rattle.nr_trienodes.proofs.trimming.rename_roots.Given as goal

abbrev pub invariant-loop-root : goal.invariant-loop-root
invariant-loop-root l = l.roots ≡ map (new_root l.names) (take l.root-index l.initial.roots) ++ drop l.root-index l.initial.roots
