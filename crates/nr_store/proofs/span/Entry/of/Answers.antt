-- The goals of `span::Entry::of` that no tactic closes.
use Rattle.std.proofs.Common.{arith}
use Rattle.nr_triedef.proofs.Parts.{nibbles_small}
use Rattle.nr_store.proofs.span.Entry.of.Goals as goal

pub returns-clause-small : goal.returns-clause-small
returns-clause-small c = nibbles_small c.args.key.now (λ i. omega (arith, c.type_inv.key i))
