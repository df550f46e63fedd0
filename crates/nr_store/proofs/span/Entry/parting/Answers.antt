-- The goals of `span::Entry::parting` that no tactic closes.
use Rattle.std.proofs.Common.{sym, arith}
use Rattle.nr_store.proofs.Nibbles.{meets_more}
use Rattle.nr_store.proofs.span.Entry.parting.Goals as goal

pub loop-at-preserved : goal.loop-at-preserved
loop-at-preserved c = omega (arith, meets_more c.args.self.now.0 c.args.other.now.0 c.loop-at.at (sym c.loop-at-test.ensures.value), c.loop-at.invariant)
