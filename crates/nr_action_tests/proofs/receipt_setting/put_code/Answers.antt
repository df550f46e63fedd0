-- The goals of `receipt_setting::put_code` that no tactic closes.
use Rattle.nr_action_tests.proofs.Sounding.{code_put}
use Rattle.nr_action_tests.proofs.receipt_setting.put_code.Goals as goal

pub returns : goal.returns
returns c =
    code_put c.args.config.now (λ w h. c.valid_world_laws.ensures.kept c.args.config.now w h) (c.token_laws.ensures c.args.config.now) c.args.state.now c.set_code.new.self c.args.id.now _ c.requires.sound c.requires.stands c.in_ok-set_code.ensures.ok
