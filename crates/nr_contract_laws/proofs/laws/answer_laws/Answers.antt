-- The goals of `laws::answer_laws` that no tactic closes.
use Rattle.nr_contract_laws.proofs.Answering.{answers, begins, goes_on}
use Rattle.nr_contract_laws.proofs.laws.answer_laws.Goals as goal

pub returns-clause-answers : goal.returns-clause-answers
returns-clause-answers c = answers

pub returns-clause-goes_on : goal.returns-clause-goes_on
returns-clause-goes_on c = λ s f args value fits e.
    let behind = goes_on s f args value fits e in
    (behind.fits, behind.usage)

pub returns-clause-begins : goal.returns-clause-begins
returns-clause-begins c = begins
