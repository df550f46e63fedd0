-- The goals of `knowing::know_bytes` that no tactic closes.
use Rattle.std.proofs.Common.{arith}
use Rattle.nr_recheck.proofs.knowing.know_bytes.Goals as goal

pub returns : goal.returns
returns c = λ i. omega (arith, c.type_inv.bytes i)
