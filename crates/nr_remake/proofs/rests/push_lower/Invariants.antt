-- What holds at the loops of `rests::push_lower`.
use Rattle.std.proofs.Common.{◌≡◌, ◌++◌, length}
use Rattle.nr_remake.specs.Merging.{marks_of, lower, upper}
use Rattle.nr_remake.proofs.rests.push_lower.Given as goal

abbrev pub invariant-loop-others : goal.invariant-loop-others
invariant-loop-others l = record {
  listed : l.list.items ++ lower l.path (marks_of l.others) ≡ l.initial.list.items ++ lower l.path (marks_of l.new);
  others : upper l.path (marks_of l.others) ≡ upper l.path (marks_of l.new);
}

abbrev pub decreases-loop-others : goal.decreases-loop-others
decreases-loop-others l = length l.others
