-- The goals of `span::Entry::part` that no tactic closes.
use Rattle.std.proofs.Common.{arith, ◌∙◌}
use Rattle.nr_store.proofs.Nibbles.{part_more, part_all, part_ended}
use Rattle.nr_store.proofs.span.Entry.part.Goals as goal

pub loop-at-preserved : goal.loop-at-preserved
loop-at-preserved c = record {
  value = part_more c.args.self.now.0 c.loop-at.part.items c.push.new.self.items c.args.from c.loop-at.at c.in-Some.nibble c.loop-at.auto.at c.loop-at.invariant.value c.in-Some.ensures.value c.in_ok-push-in-Some.ensures.items;
  none = λ le. absurd (omega (arith, c.loop-at.auto.at));
}

pub returns : goal.returns
returns c = c.of-2.ensures ∙ part_all c.args.self.now.0 c.loop-at.part.items c.args.from c.loop-at.at c.args.to c.loop-at.auto.at c.loop-at.auto.at-end c.loop-at-test.false c.loop-at.invariant.value c.loop-at.invariant.none

pub returns-in-None : goal.returns-in-None
returns-in-None c = c.of.ensures ∙ part_ended c.args.self.now.0 c.loop-at.part.items c.args.from c.loop-at.at c.args.to c.loop-at.auto.at (omega arith) c.loop-at.invariant.value c.in-None.ensures.value
