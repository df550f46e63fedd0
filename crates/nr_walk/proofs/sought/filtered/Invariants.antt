-- What holds at the loops of `sought::filtered`.
use Rattle.std.proofs.Common.{◌≡◌, ◌++◌, drop}
use Rattle.std.specs.Prelude.{filter}
use Rattle.nr_walk.specs.Searched.{is_met}
use Rattle.nr_walk.proofs.sought.filtered.Given as goal

abbrev pub invariant-loop-one : goal.invariant-loop-one
invariant-loop-one l = l.list.items ++ filter (is_met l.place) (drop l.one-index l.met) ≡ filter (is_met l.place) l.met
