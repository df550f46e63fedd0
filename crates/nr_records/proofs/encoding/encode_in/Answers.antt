-- The goals of `encoding::encode_in` that no tactic closes.
use Rattle.std.proofs.Common.{rules, ◌≡◌, ap, ◌∙◌}
use Rattle.nr_records.specs.Reading.{all_of}
use Rattle.nr_bytes.proofs.Whole.{whole_again}
use Rattle.nr_records.specs.Fault.{record_fault}
use Rattle.nr_records.proofs.encoding.encode_in.Goals as goal

pub returns-clause-back : goal.returns-clause-back
returns-clause-back g c =
    let e : c.write.new.writer ≡ g.T.Spelled.spelling c.args.value.now = search rules in
    ap (all_of g.T.Spelled.reading) e ∙ whole_again record_fault g.T.Spelled.reading g.T.Spelled.spelling g.T.Spelled.fits g.met.T.Spelled.law c.args.value.now c.in_ok-write.ensures.in_range
