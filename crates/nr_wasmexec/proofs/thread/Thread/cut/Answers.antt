-- The goals of `thread::Thread::cut` that no tactic closes.
use Rattle.nr_wasmtypes.specs.Code.{code_of}
use Rattle.std.proofs.Common.{◌∙◌}
use Rattle.std.specs.Prelude.{reverse}
use Rattle.nr_wasmexec.proofs.Segments.{cut_at}
use Rattle.nr_wasmexec.proofs.thread.Thread.cut.Goals as goal

pub returns : goal.returns
returns c =
    let i = c.self.inside in
    cut_at c.args.count i.height c.len.result i.operands.items c.truncate.new.self.items i.locals.items i.base (code_of i.code.now) (reverse i.controls.items) c.args.self.now c.self.view_is c.self.invariant.in_operands c.requires (c.len.ensures ∙ i.operands.ok.0) c.truncate.ensures.items
