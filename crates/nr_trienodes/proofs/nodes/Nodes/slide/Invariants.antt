-- What holds at the loops of `nodes::Nodes::slide`.
use Rattle.std.proofs.Common.{◌≤◌, length}
use Rattle.nr_trienodes.specs.Views.{shapes}
use Rattle.nr_trienodes.specs.Naming.{HaveOwn, Slides}
use Rattle.nr_trienodes.proofs.nodes.Nodes.slide.Given as goal

abbrev pub invariant-loop-id : goal.invariant-loop-id
invariant-loop-id l = record { slides : Slides (shapes l.initial.self-inside.nodes.items) l.initial.names (shapes l.self-inside.nodes.items) l.names l.id l.next; own : HaveOwn l.names l.oldest; past : l.oldest ≤ l.id; within : l.id ≤ length (shapes l.initial.self-inside.nodes.items) }
