-- The goals of `laws::ending_laws` that no tactic closes.
use Rattle.nr_contract_laws.proofs.Ending.{comes, ends, kinds}
use Rattle.nr_contract_laws.proofs.laws.ending_laws.Goals as goal

pub returns-clause-kinds : goal.returns-clause-kinds
returns-clause-kinds c = λ x w call kind part burnt config is.
    kinds c.running_laws.ensures.goes_on c.running_laws.ensures.begins x config w call kind part burnt is

pub returns-clause-comes : goal.returns-clause-comes
returns-clause-comes c = comes

pub returns-clause-ends : goal.returns-clause-ends
returns-clause-ends c = ends
