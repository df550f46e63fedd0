-- The goals of `stacks::Stacks::empty` that no tactic closes.
use Rattle.std.proofs.Common.{reverse, drop, arith, length-drop}
use Rattle.std.proofs.lemmas.List.{length-reverse}
use Rattle.nr_wasmvalid.proofs.OnShapes.{no_more-some}
use Rattle.nr_wasmvalid.proofs.stacks.Stacks.empty.Goals as goal

pub returns-else-len-self : goal.returns-else-len-self
returns-else-len-self c other =
    let ops = c.self.inside.operands.items in
    let h = c.self.inside.frame.height in
    rw (← c.self.view_is) (no_more-some (reverse (drop h ops)) (omega (arith, length-reverse (drop h ops), length-drop h ops)))
