-- What holds at the loops of `running::run_all`.
use Rattle.std.proofs.Common.{◌≡◌, drop}
use Rattle.nr_receipt.specs.Parts.{CanRun}
use Rattle.nr_receipt.specs.Running.{run_from, run_actions}
use Rattle.nr_receipt.proofs.running.run_all.Given as goal
use Rattle.nr_state.specs.Calls.{Stands}

abbrev pub invariant-loop-index : goal.invariant-loop-index
invariant-loop-index g l = record {
  can : CanRun l.config l.index l.state.world l.frame;
  runs : run_from l.config (g.C.Caller.meaning l.caller) l.index (drop l.index l.frame.act.actions) l.state.world l.frame ≡ run_actions l.config (g.C.Caller.meaning l.caller) l.initial.state.world l.initial.frame;
  stands : Stands l.initial.state l.state;
  act : l.frame.act ≡ l.initial.frame.act;
}
