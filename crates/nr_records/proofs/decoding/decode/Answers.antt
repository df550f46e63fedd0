-- The goals of `decoding::decode` that no tactic closes.
use Rattle.std.proofs.Common.{ap, subst, ◌∙◌, arith}
use Rattle.nr_records.specs.Reading.{all_of}
use Rattle.nr_bytes.specs.Answers.{Gives}
use Rattle.nr_bytes.proofs.Whole.{is_found, whole_again}
use Rattle.nr_records.specs.Fault.{record_fault}
use Rattle.nr_records.specs.declared.fault.RecordFault.TheVariants.{Memory}
use Rattle.nr_records.proofs.decoding.decode.Goals as goal

pub returns-clause-found : goal.returns-clause-found
returns-clause-found g c = is_found record_fault g.T.Spelled.reading g.T.Spelled.spelling g.T.Spelled.fits g.met.T.Spelled.law c.args.bytes.now Memory c.whole.result (λ i. omega (arith, c.type_inv.bytes i)) c.whole.ensures

pub returns-clause-only : goal.returns-clause-only
returns-clause-only g c = λ v fits e. subst (Gives Memory c.whole.result) (ap (all_of g.T.Spelled.reading) e ∙ whole_again record_fault g.T.Spelled.reading g.T.Spelled.spelling g.T.Spelled.fits g.met.T.Spelled.law v fits) c.whole.ensures
