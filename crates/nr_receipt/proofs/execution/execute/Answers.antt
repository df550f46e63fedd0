-- The goals of `execution::execute` that no tactic closes.
use Rattle.std.proofs.Common.{refl}
use Rattle.nr_receipt.proofs.Whole.{executes, ready}
use Rattle.nr_receipt.proofs.execution.execute.Goals as goal

pub execute_frame-requires-clause-ready : goal.execute_frame-requires-clause-ready
execute_frame-requires-clause-ready g c =
    ready c.args.config.now c.args.receipt c.args.inputs c.args.place.now c.in_ok-frame.frame c.requires.bounded c.args.state.now.world c.requires.valid c.requires.room c.args.receipt.body refl c.in_ok-frame.ensures

pub returns : goal.returns
returns g c =
    executes c.args.config.now (g.C.Caller.meaning c.args.caller.now) c.args.receipt c.args.inputs c.args.place.now c.in_ok-frame.frame c.execute_frame.result c.args.state.now c.execute_frame.new.state c.args.receipt.body c.in_ok-frame.ensures c.execute_frame.ensures
