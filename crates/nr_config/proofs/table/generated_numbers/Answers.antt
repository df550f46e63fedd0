-- The goals of `table::generated_numbers` that no tactic closes.
use Rattle.std.proofs.Common.{arith, length-set, ◌∙◌}
use Rattle.nr_config.specs.declared.table.Row as code
use Rattle.nr_config.proofs.Loop.{column_more, column_done}
use Rattle.nr_config.proofs.table.generated_numbers.Goals as goal

pub loop-i-preserved : goal.loop-i-preserved
loop-i-preserved c =
    (length-set c.loop-i.numbers c.loop-i.i _ ∙ c.loop-i.invariant.0, column_more (λ (r : code.Row). r.generated) c.loop-i.i c.loop-i.numbers c.args.rows.now _ (omega arith) (omega arith) c.loop-i.invariant.1)

pub returns : goal.returns
returns c = column_done (λ (r : code.Row). r.generated) c.loop-i.i c.loop-i.numbers c.args.rows.now (omega arith) (omega arith) c.loop-i.invariant.1
