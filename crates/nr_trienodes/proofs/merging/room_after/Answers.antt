-- The goals of `merging::room_after` that no tactic closes.
use Rattle.std.proofs.Common.{length, ap, arith}
use Rattle.nr_triedef.specs.Node.{nibbles}
use Rattle.nr_trienodes.specs.Merging.{Changing}
use Rattle.nr_trienodes.proofs.Keys.{length-nibbles}
use Rattle.nr_trienodes.proofs.merging.room_after.Goals as goal

pub returns-then-change-clause-none : goal.returns-then-change-clause-none
returns-then-change-clause-none c = λ _.
    omega (arith, c.requires, length-nibbles c.change.inside.key.now, ap (λ (d : Changing). length (nibbles d.0)) c.change.view_is)

pub returns-then-weight-room-clause-none : goal.returns-then-weight-room-clause-none
returns-then-weight-room-clause-none c = λ _.
    omega (arith, length-nibbles c.change.inside.key.now, ap (λ (d : Changing). length (nibbles d.0)) c.change.view_is)

pub returns-clause-left : goal.returns-clause-left
returns-clause-left c = omega (arith, length-nibbles c.change.inside.key.now, ap (λ (d : Changing). length (nibbles d.0)) c.change.view_is)
