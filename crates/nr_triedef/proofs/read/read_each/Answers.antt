-- The goals of `read::read_each` that no tactic closes.
use Rattle.std.proofs.Common.{◌≡◌, ◌<◌, ◌+◌, length, ◌++◌, ◌∷◌, [], take, arith}
use Rattle.std.proofs.Math.ListN.{set, length-set}
use Rattle.std.proofs.lemmas.List.{take_more_set}
use Rattle.std.proofs.lemmas.Result.{err_from_is_err_and}
use Rattle.nr_triedef.specs.Reading.{each_at}
use Rattle.nr_triedef.proofs.Each.{goes_on, ends, is_done}
use Rattle.nr_triedef.proofs.read.read_each.Goals as goal

pub returns-in_err-children : goal.returns-in_err-children
returns-in_err-children c =
    let p = err_from_is_err_and c.from_residual.result c.from_residual.ensures.1 in
    rw (p.1, p.2) (λ other. ends (take c.loop-i.i c.loop-i.children) c.loop-i.i c.loop-i.bits c.loop-i.reader c.in_err-children.field-0.0 (each_at 16 c.args.bits c.args.reader.now) c.loop-i-test.true (c.in_err-children.ensures other) c.loop-i.invariant.so_far)

pub loop-i-preserved : goal.loop-i-preserved
loop-i-preserved c =
    let within : c.loop-i.i < length c.loop-i.children = omega (arith, c.loop-i.invariant.full) in
    let more : take (c.loop-i.i + 1) (set c.loop-i.children c.loop-i.i c.in_ok-children.field-0) ≡ take c.loop-i.i c.loop-i.children ++ c.in_ok-children.field-0 ∷ [] = take_more_set c.loop-i.children c.loop-i.i c.in_ok-children.field-0 within in
    let on = goes_on (take c.loop-i.i c.loop-i.children) c.loop-i.i c.loop-i.bits c.loop-i.reader c.in_ok-children.field-0 c.read_child.new.reader (each_at 16 c.args.bits c.args.reader.now) c.loop-i-test.true c.in_ok-children.ensures c.loop-i.invariant.so_far in
    record { so_far = rw more on; full = rw length-set c.loop-i.invariant.full }

pub returns : goal.returns
returns c = is_done c.loop-i.children c.loop-i.i c.loop-i.bits c.loop-i.reader (each_at 16 c.args.bits c.args.reader.now) c.loop-i.invariant.full c.loop-i-test.false c.loop-i.invariant.so_far
