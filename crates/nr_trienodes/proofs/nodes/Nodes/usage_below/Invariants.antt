-- What holds at the loops of `nodes::Nodes::usage_below`.
use Rattle.std.proofs.Common.{◌≡◌, take}
use Rattle.std.specs.Prelude.{sum_by}
use Rattle.std.specs.Option.{option_map}
use Rattle.nr_triedef.specs.Root.{usage_below}
use Rattle.nr_trienodes.specs.Tries.{summary_at}
use Rattle.nr_trienodes.proofs.nodes.Nodes.usage_below.Given as goal

abbrev pub invariant-loop-child : goal.invariant-loop-child
invariant-loop-child l = l.usage ≡ sum_by (λ c. usage_below (option_map (summary_at l.self) c)) (take l.child-index l.row)
