-- What holds at the loops of `nodes::rename_packed`.
use Rattle.std.proofs.Common.{◌≡◌, ◌++◌, ◌<◌, length, map, take, drop}
use Rattle.nr_trienodes.specs.Naming.{renamed}
use Rattle.nr_trienodes.proofs.nodes.rename_packed.Given as goal

abbrev pub invariant-loop-x : goal.invariant-loop-x
invariant-loop-x l = record {
  is : l.row ≡ map (renamed l.names) (take l.x l.initial.row) ++ drop l.x l.initial.row;
  full : 0 < l.x → length l.initial.row ≡ 16;
}
