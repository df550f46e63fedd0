-- The goals of `listing::fit_of` that no tactic closes.
use Rattle.std.proofs.Common.{◌≡◌, ◌≢◌, get_or, arith}
use Rattle.nr_trienodes.proofs.Keys.{along_more}
use Rattle.nr_trienodes.proofs.Begins.{fit_ends, fit_leaves}
use Rattle.nr_trienodes.proofs.listing.fit_of.Goals as goal

pub returns-in_default : goal.returns-in_default
returns-in_default c = fit_ends c.args.part.now c.args.prefix.now c.args.at c.loop-n.n c.loop-n.place c.loop-n.invariant (omega (arith, c.loop-n-test.true)) c.in_default.ensures

pub returns-then-nibble-part : goal.returns-then-nibble-part
returns-then-nibble-part c =
    let differ : c.in-Some.nibble ≢ get_or c.args.part.now c.loop-n.n 0 = c.if-nibble-part.true in
    fit_leaves c.args.part.now c.args.prefix.now c.args.at c.loop-n.n c.loop-n.place c.in-Some.nibble c.loop-n.invariant c.loop-n-test.true c.in-Some.ensures differ

pub loop-n-preserved : goal.loop-n-preserved
loop-n-preserved c =
    let same : c.in-Some.nibble ≡ get_or c.args.part.now c.loop-n.n 0 = omega arith in
    along_more c.args.part.now c.args.prefix.now c.args.at c.loop-n.n c.loop-n.place c.in-Some.nibble c.loop-n.invariant c.loop-n-test.true same c.in-Some.ensures
