-- What holds at the loops of `proving::add_leaves`.
use Rattle.std.proofs.Common.{◌≡◌, ◌++◌, take}
use Rattle.std.specs.List.{AllByRecursion, flat_map}
use Rattle.nr_outproof.specs.Fitting.{FitsKind}
use Rattle.nr_outproof.specs.Leaves.{leaves_in}
use Rattle.nr_outproof.proofs.proving.add_leaves.Given as goal

abbrev pub invariant-loop-line : goal.invariant-loop-line
invariant-loop-line l = record {
  tops : l.tops.items ≡ l.fn.tops.items ++ flat_map (leaves_in l.fn.kind) (take l.line-index l.lines);
  fits : AllByRecursion (FitsKind l.fn.kind) (take l.line-index l.lines);
}
