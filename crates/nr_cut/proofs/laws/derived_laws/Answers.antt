-- The goals of `laws::derived_laws` that no tactic closes.
use Rattle.nr_cut.proofs.Derived.{awaited_of_both, awaited_of_part, missing_of_both, missing_of_part}
use Rattle.nr_cut.proofs.laws.derived_laws.Goals as goal

pub returns-clause-part : goal.returns-clause-part
returns-clause-part c = λ test w keyed. record {
  awaited = awaited_of_part test w keyed;
  missing = missing_of_part test w keyed;
}

pub returns-clause-beside : goal.returns-clause-beside
returns-clause-beside c = λ test a b one other ka kb. record {
  awaited = awaited_of_both test a b one other ka kb;
  missing = missing_of_both test a b one other ka kb;
}
