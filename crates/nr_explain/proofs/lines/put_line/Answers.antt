-- The goals of `lines::put_line` that no tactic closes.
use Rattle.nr_explain.specs.Coded.{form_in}
use Rattle.nr_explain.proofs.Rows.{no_object}
use Rattle.nr_explain.proofs.lines.put_line.Goals as goal

pub returns-in-None : goal.returns-in-None
returns-in-None c =
    no_object (λ f. form_in f.now) c.lines.result.now c.form_of.result c.args.line.now c.args.out.now.items c.lines.ensures c.form_of.ensures c.in-None.is
