-- The goals of `results::give_data` that no tactic closes.
use Rattle.std.proofs.Common.{◌<◌, length, ap, ◌∙◌, arith}
use Rattle.nr_receipt.specs.Drawing.{with_data}
use Rattle.nr_receipt.proofs.Giving.{data_on}
use Rattle.nr_receipt.proofs.results.give_data.Goals as goal

pub loop-index-preserved : goal.loop-index-preserved
loop-index-preserved c =
    let inside : c.loop-index.index < length c.args.frame.now.act.outputs = omega (arith, c.loop-index-test.true, ap length c.inner-count.ensures) in
    let next = data_on c.args.bytes.now c.loop-index.frame c.give_datum.new.frame (with_data c.args.bytes.now c.args.frame.now) c.args.frame.now.act.outputs c.loop-index.index (ap (λ act. act.outputs) c.loop-index.invariant.act) inside c.in_ok-give_datum.ensures c.loop-index.invariant.left in
    record { left = next.left; act = next.act ∙ c.loop-index.invariant.act }
