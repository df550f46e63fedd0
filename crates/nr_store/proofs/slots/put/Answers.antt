-- The goals of `slots::put` that no tactic closes.
use Rattle.std.proofs.Common.{Some, sym, ap, ◌∙◌}
use Rattle.std.specs.Option.{option_map}
use Rattle.nr_store.specs.Plain.{held_in, text_of}
use Rattle.nr_store.proofs.Held.{lookup-keyed, held_in-insert, HasSlot-insert, HasSlot-inserted}
use Rattle.nr_store.proofs.slots.put.Goals as goal

pub returns-clause-before : goal.returns-clause-before
returns-clause-before c = ap (option_map text_of) c.in_ok-before.ensures.old ∙ sym (lookup-keyed c.args.slots.now.entries c.args.key.items)

pub returns-clause-ok : goal.returns-clause-ok
returns-clause-ok c = ap held_in c.in_ok-before.ensures.entries ∙ held_in-insert c.args.slots.now.entries c.args.key (Some c.args.value)

pub returns-clause-slot : goal.returns-clause-slot
returns-clause-slot c = rw c.in_ok-before.ensures.entries (HasSlot-inserted c.args.slots.now.entries c.args.key (Some c.args.value))

pub returns-clause-kept : goal.returns-clause-kept
returns-clause-kept c q h = rw c.in_ok-before.ensures.entries (HasSlot-insert c.args.slots.now.entries c.args.key (Some c.args.value) q h)
