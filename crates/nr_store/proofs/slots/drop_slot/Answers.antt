-- The goals of `slots::drop_slot` that no tactic closes.
use Rattle.std.proofs.Common.{ap, ◌∙◌}
use Rattle.nr_store.specs.Plain.{held_in}
use Rattle.nr_store.proofs.Held.{held_in-remove, HasSlot-remove}
use Rattle.nr_store.proofs.slots.drop_slot.Goals as goal

pub returns-clause-after : goal.returns-clause-after
returns-clause-after c = ap held_in c.remove.ensures.entries ∙ held_in-remove c.args.slots.now.entries c.args.key.now c.len.ensures.ordered

pub returns-clause-kept : goal.returns-clause-kept
returns-clause-kept c q ne h = rw c.remove.ensures.entries (HasSlot-remove c.args.slots.now.entries c.args.key.now c.len.ensures.ordered q ne h)
