-- The goals of `node::bitmap` that no tactic closes.
use Rattle.std.proofs.Common.{◌≤◌, true, false, arith}
use mir.Val.{bool_byte}
use Rattle.nr_triedef.proofs.Parts.{bitmap_fits}
use Rattle.nr_triedef.proofs.node.bitmap.Goals as goal

pub overflow_mul-bits : goal.overflow_mul-bits
overflow_mul-bits c =
    let bound = bitmap_fits c.args.children.now c.loop-i.i c.told-children (omega arith) in
    omega (arith, bound)

pub overflow_add-bits : goal.overflow_add-bits
overflow_add-bits c =
    let bound = bitmap_fits c.args.children.now c.loop-i.i c.told-children (omega arith) in
    let bit : bool_byte c.is_some.result ≤ 1 = elim c.is_some.result as (λ b. bool_byte b ≤ 1) [ true ↦ omega arith | false ↦ omega arith ] in
    omega (arith, bound, bit)
