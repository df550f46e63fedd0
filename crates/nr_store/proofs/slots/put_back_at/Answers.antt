-- The goals of `slots::put_back_at` that no tactic closes.
use Rattle.std.proofs.Common.{ap, ◌∙◌}
use Rattle.nr_store.specs.Plain.{held_in}
use Rattle.nr_store.proofs.Held.{held_in-write, none-not_found, HasSlot-write}
use Rattle.nr_store.proofs.slots.put_back_at.Goals as goal

pub returns-in-Some-clause-after : goal.returns-in-Some-clause-after
returns-in-Some-clause-after c =
    ap held_in (c.get_mut.follows.holds c.args.old).0
    ∙ held_in-write c.args.slots.now.entries c.args.key.now c.args.old c.requires

pub returns-in-Some-clause-kept : goal.returns-in-Some-clause-kept
returns-in-Some-clause-kept c q h =
    rw ((c.get_mut.follows.holds c.args.old).0)
    (HasSlot-write c.args.slots.now.entries c.args.key.now c.args.old q c.requires h)

pub returns-in_default-clause-after : goal.returns-in_default-clause-after
returns-in_default-clause-after c = absurd (none-not_found c.args.slots.now.entries c.args.key.now c.in_default.ensures.value c.requires)
