-- The goals of `settling::front_of` that no tactic closes.
use Rattle.std.proofs.Common.{ap, arith, length}
use Rattle.std.proofs.lemmas.List.{length-take}
use Rattle.nr_trienodes.proofs.settling.front_of.Goals as goal

pub slice_bounds-from_slice-end : goal.slice_bounds-from_slice-end
slice_bounds-from_slice-end c = omega (arith, length-take c.args.count c.part-part.result.now, ap length c.part-part.ensures)
