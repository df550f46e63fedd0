-- The goals of `running::pay` that no tactic closes.
use Rattle.std.proofs.Common.{refl, inl, inr}
use Rattle.nr_wasmexec.proofs.Paying.{no_due, burns_due}
use Rattle.nr_wasmexec.proofs.running.pay.Goals as goal

pub returns-then-ran-eq0-clause-pays : goal.returns-then-ran-eq0-clause-pays
returns-then-ran-eq0-clause-pays g c =
    let none = no_due g.H.Host.meaning (g.H.Host.state c.args.host.now) c.args.cost c.args.ran c.if-ran-eq0.true in
    inl (none.0, none.1, refl)

pub returns-in-Err-clause-pays : goal.returns-in-Err-clause-pays
returns-in-Err-clause-pays g c = inr (c.in-Err.ensures.burns.0, c.in-Err.ensures.burns.1, refl)

pub returns-in-Ok-clause-pays : goal.returns-in-Ok-clause-pays
returns-in-Ok-clause-pays g c =
    let paid = burns_due g.H.Host.meaning (g.H.Host.state c.args.host.now) (g.H.Host.state c.burn.new.self) c.args.cost
    c.args.ran c.requires.cost c.if-ran-eq0.false c.in-Ok.ensures.burns.1 in
    inl (c.in-Ok.ensures.burns.0, paid, refl)
