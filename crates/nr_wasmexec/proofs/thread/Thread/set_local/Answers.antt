-- The goals of `thread::Thread::set_local` that no tactic closes.
use Rattle.nr_wasmtypes.specs.Code.{code_of}
use Rattle.nr_wasmexec.proofs.Segments.{local_set_at}
use Rattle.std.specs.Prelude.{reverse}
use Rattle.std.proofs.Common.{◌∙◌}
use Rattle.nr_wasmexec.proofs.thread.Thread.set_local.Goals as goal

pub returns-then-at-len : goal.returns-then-at-len
returns-then-at-len c =
    let i = c.self.inside in
    local_set_at c.args.at c.args.value c.len.result i.operands.items i.locals.items i.height i.base (code_of i.code.now) (reverse i.controls.items) c.args.self.now c.self.view_is c.self.invariant.in_locals (c.len.ensures ∙ i.locals.ok.0) c.if-at-len.true
