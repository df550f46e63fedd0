-- The goals of `stacks::Stacks::label` that no tactic closes.
use Rattle.std.proofs.Common.{sym, ap, ◌∙◌, arith}
use Rattle.std.specs.Prelude.{slice_get}
use Rattle.nr_wasmvalid.specs.Frames.{Frames}
use Rattle.nr_wasmvalid.proofs.OnStacks.{label_deep}
use Rattle.nr_wasmvalid.proofs.stacks.Stacks.label.Goals as goal

pub returns : goal.returns
returns c =
    sym (ap (λ (v : Frames). slice_get v.labels c.args.depth) (sym c.self.view_is)
    ∙ label_deep c.self.inside.around.items c.len-2.result c.args.depth c.self.inside.frame.label c.index.result.now (omega arith) c.if-depth-eq0.false (omega arith) c.index.ensures)
