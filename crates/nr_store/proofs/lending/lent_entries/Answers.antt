-- The goals of `lending::lent_entries` that no tactic closes.
use Rattle.nr_store.proofs.Listed.{lent_walked}
use Rattle.nr_store.proofs.lending.lent_entries.Goals as goal

pub returns : goal.returns
returns c = lent_walked c.args.slots.now.entries c.loop-key.key-iterator c.loop-key.entries.items c.iter-key-items.ensures.ordered c.in-None.ensures.steps.0 c.loop-key.invariant
