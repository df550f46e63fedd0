-- The goals of `setting::first_state` that no tactic closes.
use Rattle.std.proofs.Common.{ap}
use Rattle.nr_state.specs.View.{StateView}
use Rattle.nr_onecall.proofs.Standing.{begins}
use Rattle.nr_onecall.proofs.setting.first_state.Goals as goal

pub returns-clause-world : goal.returns-clause-world
returns-clause-world c =
    begins c.args.config.now c.args.code.now c.args.deposit c.in_ok-id.id c.first_account.result c.new-state.result.world c.set_account.new.self.world c.set_code.new.self.world c.new-state.ensures.world c.in_ok-id.ensures c.first_account.ensures
    (ap (λ (s : StateView). s.world) c.in_ok-set_account.ensures.ok) (ap (λ (s : StateView). s.world) c.in_ok-set_code.ensures.ok)
