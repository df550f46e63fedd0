-- The goals of `nodes::leaf` that no tactic closes.
use Rattle.std.proofs.Common.{true}
use Rattle.nr_triedef.proofs.Parts.{part_of_nibbles}
use Rattle.nr_store.proofs.nodes.leaf.Goals as goal

pub summarize-requires-clause-form : goal.summarize-requires-clause-form
summarize-requires-clause-form g c = rw c.in_ok-part.ensures (part_of_nibbles true c.inner.result.now (λ i. rw c.inner.ensures (c.in_ok-key.ensures.small i)))
