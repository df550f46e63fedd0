-- The goals of `execution::try_actions` that no tactic closes.
use Rattle.std.proofs.Common.{refl}
use Rattle.nr_receipt.proofs.Concluding.{keeps, undoes}
use Rattle.nr_receipt.proofs.Stepping.{can_begin}
use Rattle.nr_receipt.proofs.Underway.{laws_for}
use Rattle.nr_receipt.proofs.execution.try_actions.Goals as goal

pub run_actions-requires-clause-can : goal.run_actions-requires-clause-can
run_actions-requires-clause-can g c = rw c.in_ok-make_checkpoint.ensures.world (can_begin c.args.config.now c.args.state.now.world c.args.frame.now c.requires.ready)

pub returns-in-Ok : goal.returns-in-Ok
returns-in-Ok g c =
    let laws = laws_for c.args.config.now (g.C.Caller.config c.args.caller.now) (g.C.Caller.meaning c.args.caller.now) c.requires.caller (g.met.C.Caller.law c.args.caller.now) c.action_laws.ensures.done c.action_laws.ensures.failed in
    keeps c.args.config.now c.args.state.now.world c.args.frame.now c.requires.ready (g.C.Caller.meaning c.args.caller.now) laws c.args.state.now c.make_checkpoint.new.state c.run_actions.new.state c.keep.new.self refl c.in_ok-make_checkpoint.ensures c.run_actions.new.frame
    c.in-Ok.ensures.0 c.in-Ok.ensures.1 (λ id deposit h. c.action_laws.ensures.room c.args.config.now c.run_actions.new.state.world id deposit h) c.keep.ensures.world c.keep.ensures.marks c.keep.ensures.spare c.keep.ensures.config c.keep.ensures.whole

pub returns-in-Err-Failed : goal.returns-in-Err-Failed
returns-in-Err-Failed g c =
    let laws = laws_for c.args.config.now (g.C.Caller.config c.args.caller.now) (g.C.Caller.meaning c.args.caller.now) c.requires.caller (g.met.C.Caller.law c.args.caller.now) c.action_laws.ensures.done c.action_laws.ensures.failed in
    let runs = rw c.in-Err-Failed.field-0-is at c.in-Err-Failed.ensures in
    undoes c.args.config.now c.args.state.now.world c.args.frame.now c.requires.ready
    (g.C.Caller.meaning c.args.caller.now) laws c.args.state.now c.make_checkpoint.new.state
    c.run_actions.new.state c.back.new.self refl c.in_ok-make_checkpoint.ensures c.run_actions.new.frame
    c.in-Err-Failed.index c.in-Err-Failed.kind c.in-Err-Failed.part
    runs.0 runs.1 (λ id deposit h. c.action_laws.ensures.room c.args.config.now c.args.state.now.world id deposit h) c.back.ensures.marks c.back.ensures.spare c.back.ensures.config c.back.ensures.whole
