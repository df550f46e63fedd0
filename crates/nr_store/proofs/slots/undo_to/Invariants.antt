-- What holds at the loops of `slots::undo_to`.
use Rattle.std.proofs.Common.{◌≡◌, ℕ, ◌≤◌, take, drop, vec_len}
use Rattle.nr_store.specs.Plain.{held_in, HaveSlots, AreApart, rewound}
use Rattle.nr_store.proofs.slots.undo_to.Given as goal

abbrev pub invariant-loop-log : goal.invariant-loop-log
invariant-loop-log l =
    record {
      start : l.start ≤ vec_len l.log;
      slots : HaveSlots l.slots.entries l.log.items;
      apart : AreApart l.log.items;
      log : take l.start l.log.items ≡ take l.start l.fn.log.items;
      older : (n : ℕ) → n ≤ l.start → rewound (held_in l.slots.entries) (drop n l.log.items) ≡ rewound (held_in l.fn.slots.entries) (drop n l.fn.log.items);
    }

abbrev pub decreases-loop-log : goal.decreases-loop-log
decreases-loop-log l = goal.left-loop-log l
