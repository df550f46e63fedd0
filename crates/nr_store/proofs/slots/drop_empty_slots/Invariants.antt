-- What holds at the loops of `slots::drop_empty_slots`.
use Rattle.std.proofs.Common.{◌≡◌}
use Rattle.nr_store.specs.Plain.{held_in}
use Rattle.nr_store.proofs.slots.drop_empty_slots.Given as goal

abbrev pub invariant-loop-undo : goal.invariant-loop-undo
invariant-loop-undo l = held_in l.slots.entries ≡ held_in l.fn.slots.entries
