-- The goals of `laws::decoding_laws` that no tactic closes.
use Rattle.nr_contract_laws.proofs.Decoding.{one}
use Rattle.nr_wasmbin.proofs.ModuleLaws.{decoded_is, is_decoded}
use Rattle.nr_contract_laws.proofs.laws.decoding_laws.Goals as goal

pub returns-clause-spelled : goal.returns-clause-spelled
returns-clause-spelled c = λ most bytes m. (decoded_is most bytes m, λ h. is_decoded most bytes m h.0 h.1)

pub returns-clause-one : goal.returns-clause-one
returns-clause-one c = one
