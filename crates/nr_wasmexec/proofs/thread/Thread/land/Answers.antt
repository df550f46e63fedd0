-- The goals of `thread::Thread::land` that no tactic closes.
use Rattle.nr_wasmtypes.specs.Code.{code_of}
use Rattle.std.proofs.Common.{◌∙◌, ap, ◌∷◌}
use Rattle.std.specs.Prelude.{reverse}
use Rattle.nr_wasmexec.proofs.Segments.{landed_label, landed_frame}
use Rattle.nr_wasmexec.proofs.thread.Thread.land.Goals as goal

pub returns-else-have-arity : goal.returns-else-have-arity
returns-else-have-arity c =
    let i = c.self.inside in
    let a = c.in-Some-Label in
    landed_label i.operands.items c.keep_top.new.values.items i.locals.items i.height i.base
    (code_of i.code.now) i.controls.items c.args.self.now a.height a.arity c.args.have a.again a.at
    (reverse c.pop_control.new.controls.items) (code_of c.target-self-inside.result.now) c.self.view_is
    c.self.invariant.in_operands c.self.invariant.stacked
    (a.ensures ∙ ap (λ x. x ∷ reverse c.pop_control.new.controls.items) a.field-0-is) c.target-self-inside.ensures
    c.if-have-arity.false c.requires c.keep_top.ensures

pub returns-else-have-arity-2 : goal.returns-else-have-arity-2
returns-else-have-arity-2 c =
    let i = c.self.inside in
    let a = c.in-Some-Frame in
    landed_frame i.operands.items c.keep_top-in-Some-Frame.new.values.items i.locals.items c.truncate.new.self.items
    i.height i.base (code_of i.code.now) i.controls.items c.args.self.now a.height a.base a.arity c.args.have a.at
    (reverse c.pop_control.new.controls.items) (code_of c.after_first-self-inside.result.now) c.self.view_is
    c.self.invariant.in_operands c.self.invariant.stacked
    (a.ensures ∙ ap (λ x. x ∷ reverse c.pop_control.new.controls.items) a.field-0-is)
    c.after_first-self-inside.ensures c.if-have-arity-2.false c.requires c.keep_top-in-Some-Frame.ensures
    c.truncate.ensures.items
