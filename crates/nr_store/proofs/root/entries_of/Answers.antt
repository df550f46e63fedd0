-- The goals of `root::entries_of` that no tactic closes.
use Rattle.nr_store.specs.Plain.{held_in}
use Rattle.nr_store.proofs.Listed.{entries_walked, walk_whole}
use Rattle.nr_store.proofs.root.entries_of.Goals as goal

pub returns-clause-value : goal.returns-clause-value
returns-clause-value c = entries_walked c.args.slots.now.entries c.loop-key.key-iterator c.loop-key.entries.items c.iter-key-items.ensures.ordered c.in-None.ensures.steps.0 c.loop-key.invariant.value

pub returns-clause-order : goal.returns-clause-order
returns-clause-order c =
    walk_whole (held_in c.args.slots.now.entries) c.loop-key.entries.items
    (entries_walked c.args.slots.now.entries c.loop-key.key-iterator c.loop-key.entries.items c.iter-key-items.ensures.ordered c.in-None.ensures.steps.0 c.loop-key.invariant.value)
    c.loop-key.invariant.small
