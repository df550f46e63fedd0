-- The goals of `laws::spelling_laws` that no tactic closes.
use Rattle.nr_bytes.proofs.Steps.{IsRead-front}
use Rattle.nr_bytes.proofs.Whole.{whole_again}
use Rattle.nr_records.specs.Fault.{record_fault}
use Rattle.nr_records.proofs.laws.spelling_laws.Goals as goal

pub returns-clause-taken : goal.returns-clause-taken
returns-clause-taken g c = λ s v t bytes e. g.met.T.Spelled.law.taken s (v, t) bytes e

pub returns-clause-again : goal.returns-clause-again
returns-clause-again g c = λ v at rest fits. g.met.T.Spelled.law.again v at rest fits

pub returns-clause-back : goal.returns-clause-back
returns-clause-back g c = λ v fits. whole_again record_fault g.T.Spelled.reading g.T.Spelled.spelling g.T.Spelled.fits g.met.T.Spelled.law v fits

pub returns-clause-no_front : goal.returns-clause-no_front
returns-clause-no_front g c = λ v w rest one two e. IsRead-front g.T.Spelled.reading g.T.Spelled.spelling g.T.Spelled.fits g.met.T.Spelled.law v w rest one two e
