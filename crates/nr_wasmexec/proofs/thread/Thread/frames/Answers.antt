-- The goals of `thread::Thread::frames` that no tactic closes.
use Rattle.std.proofs.Common.{sym, ◌∙◌, ap, take}
use Rattle.std.specs.Prelude.{reverse}
use Rattle.nr_wasmexec.specs.Place.{frames_in, Place}
use Rattle.nr_wasmexec.proofs.Segments.{frames_are}
use Rattle.nr_wasmexec.proofs.thread.Thread.frames.Goals as goal

pub returns : goal.returns
returns c =
    let i = c.self.inside in
    c.self.invariant.counted ∙ (sym (frames_are (reverse i.controls.items) (take i.height i.operands.items) (take i.base i.locals.items)) ∙ ap (λ (p : Place). frames_in p.contexts) c.self.view_is)
