-- The goals of `turn::matched` that no tactic closes.
use Rattle.std.proofs.Common.{◌≡◌, get_or, arith}
use Rattle.nr_trienodes.proofs.Keys.{along_more}
use Rattle.nr_trienodes.proofs.turn.matched.Goals as goal

pub loop-n-preserved : goal.loop-n-preserved
loop-n-preserved c =
    let same : c.in-Some.nibble ≡ get_or c.args.part.now c.loop-n.n 0 = omega arith in
    along_more c.args.part.now c.args.key.now c.args.at c.loop-n.n c.loop-n.place c.in-Some.nibble c.loop-n.invariant c.loop-n-test.true same c.in-Some.ensures
