-- The goals of `entry_checks::usages_stand` that no tactic closes.
use Rattle.std.proofs.Common.{refl}
use Rattle.nr_blocks.proofs.Stated.{usage_passes}
use Rattle.nr_blocks.proofs.entry_checks.usages_stand.Goals as goal

pub returns : goal.returns
returns c = λ h.
    usage_passes c.args.config.now c.args.entries.now (c.if-not-are_grouped.ensures.grouped refl) c.requires (c.in_ok-stated.ensures h)
