-- What holds at the loops of `room::room_behind_children`.
use Rattle.std.proofs.Common.{◌≤◌}
use Rattle.nr_walk.proofs.room.room_behind_children.Given as goal

abbrev pub invariant-loop-hash : goal.invariant-loop-hash
invariant-loop-hash l = l.left ≤ l.room
