-- The goals of `making::summaries` that no tactic closes.
use Rattle.std.proofs.Common.{arith}
use Rattle.std.specs.Option.{option_map}
use Rattle.nr_trienodes.specs.Tries.{summary_at}
use Rattle.nr_trienodes.proofs.Hashed.{each_made}
use Rattle.nr_trienodes.proofs.making.summaries.Goals as goal

pub returns-clause-made : goal.returns-clause-made
returns-clause-made c = each_made (option_map (summary_at c.args.nodes.now)) c.args.row.now c.loop-i.below c.told-row c.loop-i.invariant.full (λ k lt. c.loop-i.invariant.made k (omega arith))
