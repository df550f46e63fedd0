-- What holds at the loops of `routing::empty_lists`.
use Rattle.std.proofs.Common.{◌≡◌, []}
use Rattle.nr_layout.specs.Layout.{parts}
use Rattle.nr_layout.proofs.routing.empty_lists.Given as goal

abbrev pub invariant-loop : goal.invariant-loop
invariant-loop l = l.lists.items ≡ parts [] l.counter []
