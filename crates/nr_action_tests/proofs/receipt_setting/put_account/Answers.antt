-- The goals of `receipt_setting::put_account` that no tactic closes.
use Rattle.std.proofs.Common.{sym, ap, ◌∙◌}
use Rattle.nr_state.specs.View.{with_world}
use Rattle.nr_state.specs.World.{with_account}
use Rattle.nr_action_tests.proofs.Sounding.{account_put, account_stands}
use Rattle.nr_action_tests.proofs.receipt_setting.put_account.Goals as goal

pub returns-clause-sound : goal.returns-clause-sound
returns-clause-sound c =
    account_put c.args.config.now (λ w h. c.valid_world_laws.ensures.kept c.args.config.now w h) (c.token_laws.ensures c.args.config.now) c.args.state.now c.set_account.new.self c.args.id.now c.args.amount c.requires.sound c.requires.empty
    (sym c.is_system.ensures ∙ c.if-is_system.false) c.ranges.amount.fits (c.in_ok-set_account.ensures.ok ∙ ap (λ a. with_world c.args.state.now (with_account c.args.state.now.world c.args.id.now a)) c.account_of.ensures)

pub returns-clause-stands : goal.returns-clause-stands
returns-clause-stands c = account_stands c.args.state.now c.set_account.new.self c.args.id.now c.account_of.result c.in_ok-set_account.ensures.ok
