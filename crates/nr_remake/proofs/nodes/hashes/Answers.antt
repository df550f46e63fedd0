-- The goals of `nodes::hashes` that no tactic closes.
use Rattle.std.proofs.Common.{arith}
use Rattle.nr_triedef.proofs.Children.{hashes_all}
use Rattle.nr_remake.proofs.nodes.hashes.Goals as goal

pub returns : goal.returns
returns c = hashes_all c.loop-i.children c.args.below.now (omega arith) (λ k lt. c.loop-i.invariant.1 k (omega arith))
