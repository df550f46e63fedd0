-- The goals of `thread::Thread::leave_label` that no tactic closes.
use Rattle.nr_wasmtypes.specs.Code.{code_of}
use Rattle.nr_wasmexec.proofs.Segments.{label_left}
use Rattle.nr_wasmexec.proofs.thread.Thread.leave_label.Goals as goal

pub returns-in-Some : goal.returns-in-Some
returns-in-Some c =
    let i = c.self.inside in
    label_left i.operands.items i.locals.items i.height i.base (code_of i.code.now) _ c.args.self.now c.in-Some.height _ c.self.view_is c.self.invariant.in_operands c.self.invariant.stacked c.in-Some.ensures
