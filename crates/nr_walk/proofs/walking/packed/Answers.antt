-- The goals of `walking::packed` that no tactic closes.
use Rattle.std.proofs.Common.{◌∙◌, arith}
use Rattle.nr_walk.proofs.Couples.{packed_more, packed_all}
use Rattle.nr_walk.proofs.walking.packed.Goals as goal

pub loop-i-preserved : goal.loop-i-preserved
loop-i-preserved c = packed_more c.args.nibbles.now c.loop-i.bytes.items c.push.new.self.items c.loop-i.i (omega arith) c.in_ok-push.ensures.items c.loop-i.invariant

pub returns : goal.returns
returns c = c.of.ensures ∙ packed_all c.args.nibbles.now c.loop-i.bytes.items c.loop-i.i (omega arith) c.loop-i.invariant
