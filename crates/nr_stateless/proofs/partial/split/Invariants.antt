-- What holds at the loops of `partial::split`.
use Rattle.std.proofs.Common.{◌≡◌}
use Rattle.nr_remake.specs.Merging.{kept_in, found_in}
use Rattle.nr_stateless.proofs.partial.split.Given as goal

abbrev pub invariant-loop-gain : goal.invariant-loop-gain
invariant-loop-gain l = (l.kept.items ≡ kept_in l.yielded) × (l.found.items ≡ found_in l.yielded)
