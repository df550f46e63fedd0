-- What holds at the loops of `rests::merged`.
use Rattle.std.proofs.Common.{◌≡◌, ◌++◌, drop}
use Rattle.nr_remake.specs.Merging.{marks_of, merge}
use Rattle.nr_remake.proofs.rests.merged.Given as goal

abbrev pub invariant-loop-one : goal.invariant-loop-one
invariant-loop-one l = l.list.items ++ merge (marks_of (drop l.one-index l.kept)) (marks_of l.others) ≡ merge (marks_of l.kept) (marks_of l.fn.new)
