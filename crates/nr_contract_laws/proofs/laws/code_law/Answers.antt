-- The goals of `laws::code_law` that no tactic closes.
use Rattle.std.proofs.Common.{arith}
use Rattle.nr_contract_laws.proofs.laws.code_law.Goals as goal

pub returns : goal.returns
returns c = record { bytes = λ i. omega (arith, c.type_inv.code i) }
