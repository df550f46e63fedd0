-- The goals of `accounts::keeps_owner` that no tactic closes.
use Rattle.std.proofs.Common.{sym, ◌∙◌, arith}
use Rattle.nr_state.specs.View.{world_in}
use Rattle.nr_state.proofs.KeptUsage.{usage_kept}
use Rattle.nr_state.proofs.accounts.keeps_owner.Goals as goal

pub returns : goal.returns
returns g c = λ _.
    usage_kept c.args.config.now (world_in c.args.columns.now.columns) c.args.id.now c.args.key.now c.args.access.now c.in-Some.owner (sym c.in_ok-owner.ensures ∙ c.in-Some.is)
    (omega (arith, c.in_ok-before.ensures, c.in_ok-after.ensures)) (omega (arith, c.in_ok-after.ensures))
