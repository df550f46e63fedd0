-- The goals of `laws::verdict_laws` that no tactic closes.
use Rattle.nr_contract.proofs.Judging.{is_valid}
use Rattle.nr_contract_laws.proofs.Verdict.{breach_is, is_breach, valid_is}
use Rattle.nr_contract_laws.proofs.laws.verdict_laws.Goals as goal

pub returns-clause-valid : goal.returns-clause-valid
returns-clause-valid c = λ pages m. (is_valid pages m, valid_is pages m)

pub returns-clause-breach : goal.returns-clause-breach
returns-clause-breach c = λ pages m e. (is_breach pages m e, breach_is pages m e)
