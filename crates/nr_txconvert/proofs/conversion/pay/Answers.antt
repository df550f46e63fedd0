-- The goals of `conversion::pay` that no tactic closes.
use Rattle.std.proofs.Common.{ap, ◌∙◌}
use Rattle.std.specs.FinMap.{get}
use Rattle.nr_state.specs.View.{StateView}
use Rattle.nr_txconvert.proofs.Charging.{is_written}
use Rattle.nr_txconvert.proofs.conversion.pay.Goals as goal

pub returns-clause-stands : goal.returns-clause-stands
returns-clause-stands g c =
    ap (λ (s : StateView). get s.world.accounts c.args.tx.now.signer) c.in_ok-set_account.ensures.ok
    ∙ is_written c.args.state.now.world c.args.tx.now.signer _
