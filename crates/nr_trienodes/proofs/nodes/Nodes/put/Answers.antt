-- The goals of `nodes::Nodes::put` that no tactic closes.
use Rattle.std.proofs.Common.{◌+◌, ◌*◌, length, Some}
use Rattle.nr_triedef.specs.Node.{nibbles}
use Rattle.nr_trienodes.proofs.Changed.{is_put}
use Rattle.nr_trienodes.proofs.nodes.Nodes.put.Goals as goal

pub returns-in-Ok-clause-put : goal.returns-in-Ok-clause-put
returns-in-Ok-clause-put c = is_put c.args.self.now c.put_value.new.nodes c.args.root (Some (record { 0 = c.in-Ok.id })) c.args.key.now c.args.value.now (2 * length (nibbles c.args.key.now) + 3) c.room_for.ensures.sound c.put_value.ensures.sound c.requires c.in-Ok.ensures.put
