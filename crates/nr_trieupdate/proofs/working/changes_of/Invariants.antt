-- What holds at the loops of `working::changes_of`.
use Rattle.std.proofs.Common.{◌≡◌, take}
use Rattle.std.specs.Prelude.{map}
use Rattle.nr_trieupdate.specs.Overlays.{change_of}
use Rattle.nr_trieupdate.proofs.working.changes_of.Given as goal

abbrev pub invariant-loop-waits : goal.invariant-loop-waits
invariant-loop-waits l = l.changes.items ≡ map change_of (take l.waits-index l.waiting)
