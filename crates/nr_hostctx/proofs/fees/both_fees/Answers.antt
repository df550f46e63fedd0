-- The goals of `fees::both_fees` that no tactic closes.
use Rattle.std.proofs.Common.{arith}
use Rattle.nr_fees.specs.declared.table.Payment.TheVariants.{Execute}
use Rattle.nr_hostctx.proofs.Limits.{fee_bound}
use Rattle.nr_hostctx.proofs.fees.both_fees.Goals as goal

pub overflow_add-result : goal.overflow_add-result
overflow_add-result c =
    let valid = c.entry-cost.ensures.valid in
    omega (
      arith,
      c.fee_of.ensures,
      c.fee_of-2.ensures,
      fee_bound c.args.config.now c.sending.result c.args.which valid,
      fee_bound c.args.config.now Execute c.args.which valid,
    )
