-- The goals of `merging::put_within` that no tactic closes.
use Rattle.std.proofs.Common.{Err, ap, arith}
use Rattle.nr_trienodes.proofs.merging.put_within.Goals as goal

pub unreachable-requires : goal.unreachable-requires
unreachable-requires c =
    let full = c.in-Err-Full.ensures.full.only c.in-Err-Full.field-0-0 (ap Err c.in-Err-Full.field-0-is) in
    omega (arith, c.requires.room)
