-- The goals of `registers::Registers::total_with` that no tactic closes.
use Rattle.std.proofs.Common.{arith}
use Rattle.nr_guest.proofs.Sums.{total_after}
use Rattle.nr_guest.proofs.registers.Registers.total_with.Goals as goal

pub overflow_sub-result : goal.overflow_sub-result
overflow_sub-result c = rw (c.size_at.ensures, ← c.self.view_is) (omega (arith, c.self.invariant, total_after c.self.inside.held.entries c.args.id c.args.bytes.now c.len-count.ensures.ordered))
