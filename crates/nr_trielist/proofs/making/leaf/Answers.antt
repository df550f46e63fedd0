-- The goals of `making::leaf` that no tactic closes.
use Rattle.std.proofs.Common.{true}
use Rattle.nr_triedef.proofs.Parts.{part_of_nibbles}
use Rattle.nr_trielist.proofs.making.leaf.Goals as goal

pub returns-clause-form : goal.returns-clause-form
returns-clause-form c = rw c.in_ok-part.ensures (part_of_nibbles true c.inner.result.now (λ i. rw c.inner.ensures (c.in_ok-key.ensures.small i)))
