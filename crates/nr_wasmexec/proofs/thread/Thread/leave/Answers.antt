-- The goals of `thread::Thread::leave` that no tactic closes.
use Rattle.nr_wasmtypes.specs.Code.{code_of}
use Rattle.std.proofs.Common.{◌∙◌, ap, ◌∷◌}
use Rattle.std.specs.Prelude.{reverse}
use Rattle.nr_wasmexec.proofs.Segments.{left_label, left_frame}
use Rattle.nr_wasmexec.proofs.thread.Thread.leave.Goals as goal

pub returns-in-Some-Label : goal.returns-in-Some-Label
returns-in-Some-Label c =
    let i = c.self.inside in
    let a = c.in-Some-Label in
    left_label i.operands.items i.locals.items i.height i.base (code_of i.code.now) i.controls.items c.args.self.now
    a.height a.field-0-1 a.field-0-2 a.at (reverse c.pop_control.new.controls.items)
    (code_of c.after_first-self-inside.result.now) c.self.view_is c.self.invariant.in_operands
    c.self.invariant.stacked (a.ensures ∙ ap (λ x. x ∷ reverse c.pop_control.new.controls.items) a.field-0-is)
    c.after_first-self-inside.ensures

pub returns-in-Some-Frame : goal.returns-in-Some-Frame
returns-in-Some-Frame c =
    let i = c.self.inside in
    let a = c.in-Some-Frame in
    left_frame i.operands.items i.locals.items c.truncate.new.self.items i.height i.base
    (code_of i.code.now) i.controls.items c.args.self.now a.height a.base a.field-0-2 a.at
    (reverse c.pop_control.new.controls.items) (code_of c.after_first-self-inside-in-Some-Frame.result.now)
    c.self.view_is c.self.invariant.in_operands c.self.invariant.in_locals c.self.invariant.stacked
    (a.ensures ∙ ap (λ x. x ∷ reverse c.pop_control.new.controls.items) a.field-0-is)
    c.after_first-self-inside-in-Some-Frame.ensures c.truncate.ensures.items
