-- What holds at the loops of `knowing::know_actions`.
use Rattle.std.proofs.Common.{◌<◌, ◌^◌, take}
use Rattle.std.specs.List.{AllByRecursion}
use Rattle.nr_fees.specs.Fees.{attached}
use Rattle.nr_recheck.proofs.knowing.know_actions.Given as goal

abbrev pub invariant-loop-action : goal.invariant-loop-action
invariant-loop-action l = AllByRecursion (λ a. attached a < 2 ^ 64) (take l.action-index l.actions)
