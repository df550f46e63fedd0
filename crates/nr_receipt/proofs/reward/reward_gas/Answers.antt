-- The goals of `reward::reward_gas` that no tactic closes.
use Rattle.std.proofs.Common.{◌≤◌, arith, lit≤}
use Rattle.nr_config.specs.Config.{entry, least}
use Rattle.nr_config.specs.Table.{table}
use Rattle.nr_receipt.proofs.reward.reward_gas.Goals as goal

pub nonzero_div-result : goal.nonzero_div-result
unfolding least table
nonzero_div-result c =
    let least_one : 1 ≤ entry c.args.config.now 12 = (c.entry-2.ensures.valid.within 12 (lit≤ tt) (lit≤ tt)).0 in
    omega (arith, least_one, c.from-whole.ensures, c.entry-2.ensures.value)
