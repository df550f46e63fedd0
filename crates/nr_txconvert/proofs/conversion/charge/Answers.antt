-- The goals of `conversion::charge` that no tactic closes.
use Rattle.std.proofs.Common.{◌≡◌, sym, subst}
use Rattle.nr_state.specs.Changes.{usage_of_key}
use Rattle.nr_state.specs.Usage.{key_usage}
use Rattle.nr_state.specs.View.{StateView}
use Rattle.nr_txconvert.proofs.conversion.charge.Goals as goal

pub set_used_key-requires-clause-same : goal.set_used_key-requires-clause-same
set_used_key-requires-clause-same g c =
    subst (λ (s : StateView). usage_of_key s.config s.world c.args.tx.now.signer c.args.tx.now.public_key ≡ key_usage s.config c.args.tx.now.public_key c.args.used.now) (sym c.in_ok-paid.ensures.paid) c.requires.same
