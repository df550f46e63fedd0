-- The goals of `making::child_hashes` that no tactic closes.
use Rattle.std.proofs.Common.{arith}
use Rattle.nr_triedef.proofs.Children.{hashes_all}
use Rattle.nr_trielist.proofs.making.child_hashes.Goals as goal

pub returns : goal.returns
returns c = hashes_all c.loop-i.children c.args.below.now (omega arith) (λ k lt. c.loop-i.invariant.1 k (omega arith))
