-- The goals of `key_slot::KeySlot::put` that no tactic closes.
use Rattle.std.proofs.Common.{◌+◌, length, refl}
use Rattle.nr_columns.proofs.InPlace.{put_behind}
use Rattle.nr_columns.proofs.key_slot.KeySlot.put.Goals as goal

pub returns : goal.returns
returns c =
    put_behind c.self.inside.bytes c.put_at.new.bytes c.args.part.now c.args.self.now c.self.inside.count (c.self.inside.count + length c.args.part.now)
    c.put_at.ensures c.self.view_is refl
