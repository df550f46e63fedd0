-- The goals of `entry_checks::check_owners` that no tactic closes.
use Rattle.std.proofs.Common.{refl}
use Rattle.nr_blocks.proofs.entry_checks.check_owners.Goals as goal

pub returns-then-are_grouped : goal.returns-then-are_grouped
returns-then-are_grouped c = c.if-are_grouped.ensures.owned refl
