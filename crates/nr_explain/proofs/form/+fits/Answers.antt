-- The goals of `form::fits` that no tactic closes.
use Rattle.nr_explain.specs.Coded.{field_of}
use Rattle.nr_explain.proofs.FirstForm.{no_fields}
use Rattle.nr_explain.proofs.form.+fits.Goals as goal

pub returns-in-empty : goal.returns-in-empty
returns-in-empty t c = no_fields field_of c.args.form.now c.args.line.now c.in-empty.len_below
