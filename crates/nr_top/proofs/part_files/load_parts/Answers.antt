-- The goals of `part_files::load_parts` that no tactic closes.
use Rattle.std.proofs.Common.{arith}
use Rattle.nr_top.proofs.PartLoading.{on_first, on_last, on_next, on_stop}
use Rattle.nr_top.proofs.part_files.load_parts.Goals as goal

pub loop-position-init : goal.loop-position-init
loop-position-init g c = on_first c.args.prefix.now c.args.count c.before.new-parts.result.items c.before.new-parts.ensures.items

pub loop-position-preserved : goal.loop-position-preserved
loop-position-preserved g c =
    on_next c.args.prefix.now c.args.count c.loop-position.position c.loop-position.parts.items c.loop-position.invariant c.add_part.new.parts.items
    (omega (arith, c.loop-position-test.true)) c.in-Ok.ensures

pub returns-in-Err : goal.returns-in-Err
returns-in-Err g c =
    on_stop c.args.prefix.now c.args.count c.loop-position.position c.loop-position.parts.items c.loop-position.invariant _
    (omega (arith, c.loop-position-test.true)) c.in-Err.ensures

pub returns : goal.returns
returns g c = on_last c.args.prefix.now c.args.count c.loop-position.position c.loop-position.parts.items c.loop-position.invariant c.of.result c.of.ensures (omega (arith, c.loop-position-test.false))
