-- The goals of `putting::room_for` that no tactic closes.
use Rattle.std.proofs.Common.{arith, length}
use Rattle.nr_trienodes.proofs.Changed.{full_there, room_there}
use Rattle.nr_trienodes.proofs.putting.room_for.Goals as goal

pub returns-then-key-clause-full : goal.returns-then-key-clause-full
returns-then-key-clause-full c = full_there (length c.args.nodes.now) c.count-held.result c.args.key.now c.count-held.ensures.count (omega arith)

pub returns-then-from-key-clause-full : goal.returns-then-from-key-clause-full
returns-then-from-key-clause-full c = full_there (length c.args.nodes.now) c.count-held.result c.args.key.now c.count-held.ensures.count (omega arith)

pub returns-clause-full : goal.returns-clause-full
returns-clause-full c = room_there (length c.args.nodes.now) c.args.key.now tt (omega arith)
