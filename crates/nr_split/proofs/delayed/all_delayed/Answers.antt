-- The goals of `delayed::all_delayed` that no tactic closes.
use Rattle.std.proofs.Common.{arith}
use Rattle.nr_split.proofs.Steps.{delayed_step}
use Rattle.nr_split.proofs.delayed.all_delayed.Goals as goal

pub loop-entries-preserved : goal.loop-entries-preserved
loop-entries-preserved c =
    delayed_step c.args.worlds.now c.loop-entries.entries-index c.entries-item.result c.loop-entries.all.items
    c.add_delayed.new.all.items (omega arith) c.entries-item.is c.loop-entries.invariant c.in_ok-add_delayed.ensures
