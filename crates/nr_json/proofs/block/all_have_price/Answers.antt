-- The goals of `block::all_have_price` that no tactic closes.
use Rattle.std.proofs.Common.{arith}
use Rattle.std.proofs.lemmas.Result.{err_from_is_err_and}
use Rattle.nr_blocks.proofs.Turns.{each_goes_on, each_stops}
use Rattle.nr_json.specs.Blocks.{has_price}
use Rattle.nr_json.proofs.block.all_have_price.Goals as goal

pub returns-in_err-has_price : goal.returns-in_err-has_price
returns-in_err-has_price c =
    let p = err_from_is_err_and c.from_residual.result c.from_residual.ensures.1 in
    rw (p.1, p.2) (λ other. each_stops (has_price c.args.version) c.args.blocks.now c.loop-number.number c.index-blocks-number.result c.in_err-has_price.field-0.0 (omega arith) c.index-blocks-number.is (c.in_err-has_price.ensures other) c.loop-number.invariant)

pub loop-number-preserved : goal.loop-number-preserved
loop-number-preserved c =
    each_goes_on (has_price c.args.version) c.args.blocks.now c.loop-number.number c.index-blocks-number.result (omega arith) c.index-blocks-number.is c.in_ok-has_price.ensures c.loop-number.invariant
