-- The goals of `writing::write_all` that no tactic closes.
use Rattle.std.proofs.Common.{arith}
use Rattle.nr_shell.proofs.Growth.{grew_on}
use Rattle.nr_shell.proofs.writing.write_all.Goals as goal

pub loop-rest-preserved : goal.loop-rest-preserved
loop-rest-preserved g c = record {
  written = grew_on _ _ _ _ _ _ c.loop-rest.invariant.written c.in_ok-count.ensures.takes;
  rises = omega (arith, c.write.ensures.rises, c.loop-rest.invariant.rises);
}
