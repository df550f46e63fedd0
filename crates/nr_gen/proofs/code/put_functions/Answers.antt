-- The goals of `code::put_functions` that no tactic closes.
use Rattle.std.proofs.Common.{◌≡◌, arith}
use Rattle.nr_gen.proofs.Lists.{copies_begin, copies_grow}
use Rattle.nr_gen.proofs.Modules.{functions_whole}
use Rattle.nr_gen.proofs.code.put_functions.Goals as goal

pub loop-init : goal.loop-init
loop-init c = copies_begin _ 3

pub loop-preserved : goal.loop-preserved
loop-preserved c = copies_grow _ _ 3 _ _ c.loop.invariant c.in_ok-push.ensures.items

pub returns : goal.returns
returns c =
    let all : c.loop.counter ≡ 700 = omega arith in
    functions_whole _ _ _ c.loop.counter all c.in_ok-extend_from_slice.ensures.items c.loop.invariant
