-- What holds at the loops of `placing::count_levels`.
use Rattle.std.proofs.Common.{◌≡◌, ◌+◌, take, sum_by}
use Rattle.nr_trace.specs.Trail.{behind}
use Rattle.nr_trace.proofs.placing.count_levels.Given as goal

abbrev pub invariant-loop-level : goal.invariant-loop-level
invariant-loop-level l = l.count ≡ l.so_far + sum_by behind (take l.level-index l.levels)
