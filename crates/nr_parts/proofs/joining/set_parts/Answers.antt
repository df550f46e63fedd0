-- The goals of `joining::set_parts` that no tactic closes.
use Rattle.nr_parts.proofs.Sets.{parts_more}
use Rattle.nr_parts.proofs.joining.set_parts.Goals as goal

pub loop-part-preserved : goal.loop-part-preserved
loop-part-preserved c = parts_more c.args.parts.now c.loop-part.part-index c.part-item.result c.inner.result.now c.loop-part.store.contents c.set_entries.new.store.contents _ c.loop-part-test.true c.part-item.is c.inner.ensures c.in_ok-set_entries.ensures c.loop-part.invariant
