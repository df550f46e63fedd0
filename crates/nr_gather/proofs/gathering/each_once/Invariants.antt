-- What holds at the loops of `gathering::each_once`.
use Rattle.std.proofs.Common.{◌≡◌, ◌++◌, reverse, vec_len}
use Rattle.std.specs.FinMap.{empty}
use Rattle.nr_gather.specs.Gathered.{once}
use Rattle.nr_gather.proofs.gathering.each_once.Given as goal

abbrev pub invariant-loop-text : goal.invariant-loop-text
invariant-loop-text l = l.list.items ++ once l.held.contents (reverse l.left.items) ≡ once empty l.fn.texts

abbrev pub decreases-loop-text : goal.decreases-loop-text
decreases-loop-text l = vec_len l.left
