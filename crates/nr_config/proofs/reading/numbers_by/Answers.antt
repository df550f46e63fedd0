-- The goals of `reading::numbers_by` that no tactic closes.
use Rattle.std.proofs.Common.{arith, sym, ◌∙◌, length-set}
use Rattle.serde_json.specs.View.{view}
use Rattle.nr_config.proofs.Loop.{goes_on, is_done}
use Rattle.nr_config.proofs.reading.numbers_by.Goals as goal

pub loop-i-preserved : goal.loop-i-preserved
loop-i-preserved c = (
  length-set c.loop-i.numbers c.loop-i.i _ ∙ c.loop-i.invariant.0,
  goes_on c.loop-i.i c.loop-i.numbers c.args.rows.now (view c.args.value.now) _ c.in_ok-numbers.field-0 (omega arith) (omega arith) (sym c.number_of.ensures ∙ c.in_ok-numbers.was) c.loop-i.invariant.1,
)

pub returns : goal.returns
returns c = sym (is_done c.loop-i.i c.loop-i.numbers c.args.rows.now (view c.args.value.now) (omega arith) (omega arith) c.loop-i.invariant.1)
