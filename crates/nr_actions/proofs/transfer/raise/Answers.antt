-- The goals of `transfer::raise` that no tactic closes.
use Rattle.std.proofs.Common.{refl, sym, ap, subst, ◌∙◌}
use Rattle.std.specs.Prelude.{IsSome}
use Rattle.nr_actions.proofs.Raising.{raises}
use Rattle.nr_columns.specs.SpelledKeys.{key_read}
use Rattle.nr_actions.proofs.transfer.raise.Goals as goal

pub of-requires : goal.of-requires
of-requires g c = subst (λ bytes. IsSome (key_read bytes)) (sym c.inner.ensures) (subst IsSome (sym c.in_ok-bytes.ensures) refl)

pub returns : goal.returns
returns g c =
    raises c.args.state.now c.set_spelled_key.new.self c.args.frame.now.receiver c.args.frame.now.act.signer_key c.args.amount _ _ c.in-Some.key c.of.result
    c.in_ok-key.ensures c.in-Some.is c.of.ensures (ap key_read c.inner.ensures ∙ c.in_ok-bytes.ensures) c.in_ok-set_spelled_key.ensures.ok
