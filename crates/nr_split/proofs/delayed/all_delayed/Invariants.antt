-- What holds at the loops of `delayed::all_delayed`.
use Rattle.std.proofs.Common.{◌≡◌, take}
use Rattle.nr_split.specs.Split.{delayed_of}
use Rattle.nr_split.proofs.delayed.all_delayed.Given as goal

abbrev pub invariant-loop-entries : goal.invariant-loop-entries
invariant-loop-entries l = l.all.items ≡ delayed_of (take l.entries-index l.worlds)
