-- The goals of `sought::found_from` that no tactic closes.
use Rattle.std.proofs.Common.{◌-◌, length, sym}
use Rattle.nr_walk.proofs.Narrowing.{met_there}
use Rattle.nr_walk.proofs.sought.found_from.Goals as goal

pub found_behind-requires : goal.found_behind-requires
found_behind-requires c = met_there c.args.all.now c.args.steps.now (length c.args.steps.now - 1) c.in-Some.step.now (sym c.in-Some.ensures.value) c.requires
