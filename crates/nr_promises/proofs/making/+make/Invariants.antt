-- What holds at the loops of `making::make`.
use Rattle.std.proofs.Common.{length}
use Rattle.nr_promises.proofs.making.+make.Given as goal

abbrev pub decreases-make : goal.decreases-make
decreases-make l = length l.waited.now
