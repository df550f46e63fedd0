-- The goals of `thread::Thread::invoke` that no tactic closes.
use Rattle.nr_wasmtypes.specs.Code.{code_of}
use Rattle.std.proofs.Common.{◌+◌, ◌-◌, ◌≤◌, ◌∙◌, refl, ap, drop, ◌++◌, replicate, arith}
use Rattle.std.proofs.lemmas.List.{take_rest}
use Rattle.nr_wasmexec.proofs.Segments.{invoked_at, frames_fit}
use Rattle.nr_wasmexec.proofs.thread.Thread.invoke.Goals as goal

pub overflow_add-self : goal.overflow_add-self
overflow_add-self c =
    let i = c.self.inside in
    let n = c.len-count.result in
    let le : i.frames + 1 ≤ n = frames_fit i.frames n i.controls.items c.add_frame.new.controls.items _ c.self.invariant.counted c.in_ok-add_frame.ensures.control (c.len-count.ensures ∙ c.add_frame.new.controls.ok.0) in
    omega (arith, le, c.len-count.type_inv)

pub returns : goal.returns
returns c =
    let i = c.self.inside in
    invoked_at c.args.params i.height c.len.result c.len-under.result i.operands.items c.truncate.new.self.items
    i.locals.items c.add_frame.new.locals.items (replicate c.args.more 0) i.base c.args.arity (code_of i.code.now)
    (code_of c.args.body.now) i.controls.items c.add_frame.new.controls.items i.code c.args.self.now
    c.self.view_is c.self.invariant.in_operands c.self.invariant.in_locals c.requires
    (c.len.ensures ∙ i.operands.ok.0) (c.len-under.ensures ∙ i.locals.ok.0) c.truncate.ensures.items
    (c.in_ok-add_frame.ensures.locals ∙ (ap (λ xs. i.locals.items ++ (xs ++ replicate c.args.more 0))
    (take_rest c.deref.result.now (c.len.result - c.args.params)) ∙ ap
    (λ ops. i.locals.items ++ (drop (c.len.result - c.args.params) ops ++ replicate c.args.more 0))
    c.deref.ensures.value)) c.in_ok-add_frame.ensures.control refl
