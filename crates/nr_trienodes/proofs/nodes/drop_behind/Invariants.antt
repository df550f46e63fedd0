-- What holds at the loops of `nodes::drop_behind`.
use Rattle.std.proofs.Common.{◌≡◌, take}
use Rattle.nr_trienodes.proofs.nodes.drop_behind.Given as goal

abbrev pub invariant-loop : goal.invariant-loop
invariant-loop l = take l.count l.nodes.items ≡ take l.count l.initial.nodes.items
