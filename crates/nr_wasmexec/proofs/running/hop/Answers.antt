-- The goals of `running::hop` that no tactic closes.
use Rattle.std.proofs.Common.{sym, ◌∙◌}
use Rattle.nr_wasmexec.specs.Machine.{rules_of, runtime}
use Rattle.nr_wasmexec.proofs.Turning.{too_large}
use Rattle.nr_wasmexec.proofs.Paying.{turn_leaps}
use Rattle.nr_wasmexec.proofs.running.hop.Goals as goal

pub returns-then-is_too_large-clause-leaps : goal.returns-then-is_too_large-clause-leaps
returns-then-is_too_large-clause-leaps g c =
    let w = rules_of g.H.Host.meaning c.args.program.now c.args.limits in
    (0, too_large w (runtime (g.H.Host.state c.args.host.now) c.args.guest.now) c.args.thread.now (sym c.is_too_large.ensures ∙ c.if-is_too_large.true))

pub returns-clause-leaps : goal.returns-clause-leaps
returns-clause-leaps g c =
    turn_leaps (rules_of g.H.Host.meaning c.args.program.now c.args.limits)
    (runtime (g.H.Host.state c.args.host.now) c.args.guest.now) c.args.thread.now c.turn.result
    (g.H.Host.state c.turn.new.host) c.turn.new.guest c.turn.new.thread
    (sym c.is_too_large.ensures ∙ c.if-is_too_large.false) c.turn.ensures.turns
