-- The goals of `part::nibbles` that no tactic closes.
use Rattle.std.proofs.Common.{◌≡◌, arith, append_assoc}
use Rattle.std.proofs.lemmas.Grind.{common_steps}
use Rattle.nr_bytes.specs.Numbers.{IsBytes}
use Rattle.nr_triedef.proofs.Parts.{nibbles_more, nibbles_small}
use Rattle.nr_triedef.specs.Node.{nibbles}
use Rattle.nr_triedef.proofs.part.nibbles.Goals as goal

pub loop-byte-preserved : goal.loop-byte-preserved
loop-byte-preserved c =
    let more = nibbles_more c.args.key.now c.loop-byte.byte-index (omega arith) in
    grind (arith, common_steps, append_assoc)

pub returns-clause-small : goal.returns-clause-small
returns-clause-small c =
    let fits : IsBytes c.args.key.now = λ i. omega (arith, c.type_inv.key i) in
    let whole : c.of.result ≡ nibbles c.args.key.now = grind (arith, common_steps) in
    λ i. rw whole (nibbles_small c.args.key.now fits i)
