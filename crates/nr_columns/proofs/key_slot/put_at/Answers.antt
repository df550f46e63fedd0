-- The goals of `key_slot::put_at` that no tactic closes.
use Rattle.std.proofs.Common.{arith}
use Rattle.nr_columns.proofs.InPlace.{put_part}
use Rattle.nr_columns.proofs.key_slot.put_at.Goals as goal

pub returns : goal.returns
returns c = put_part c.args.at _ c.args.bytes.now _ c.args.part.now c.copy_from_slice.ensures.after (omega arith)
