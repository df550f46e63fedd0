-- The goals of `running::obey` that no tactic closes.
use Rattle.std.proofs.Common.{ap, ◌∙◌}
use Rattle.nr_wasmtypes.specs.Code.{begins}
use Rattle.nr_wasmtypes.proofs.Levels.{begins_put}
use Rattle.nr_wasmexec.specs.Machine.{rules_of}
use Rattle.nr_wasmexec.proofs.Turning.{poor, obeys, falls}
use Rattle.nr_wasmexec.proofs.running.obey.Goals as goal

pub returns-in-Err-clause-step : goal.returns-in-Err-clause-step
returns-in-Err-clause-step g c =
    poor (rules_of g.H.Host.meaning c.args.program.now c.args.limits) (g.H.Host.state c.args.host.now) c.args.guest.now c.args.thread.now (g.H.Host.state c.burn.new.self) (ap begins c.requires.code ∙ begins_put c.args.instr.now _) c.in-Err.ensures.burns.0 c.in-Err.ensures.burns.1

pub returns-in-Ok-clause-step : goal.returns-in-Ok-clause-step
returns-in-Ok-clause-step g c =
    obeys (rules_of g.H.Host.meaning c.args.program.now c.args.limits)
    (g.H.Host.state c.args.host.now) c.args.guest.now c.args.thread.now
    (g.H.Host.state c.burn.new.self) c.execute.result (g.H.Host.state c.execute.new.host) c.execute.new.guest
    c.execute.new.thread (ap begins c.requires.code ∙ begins_put c.args.instr.now _) c.in-Ok.ensures.burns.0
    c.in-Ok.ensures.burns.1 c.execute.ensures.goes

pub returns-in-Ok-clause-falls : goal.returns-in-Ok-clause-falls
returns-in-Ok-clause-falls g c =
    falls (rules_of g.H.Host.meaning c.args.program.now c.args.limits)
    (g.H.Host.state c.args.host.now) c.args.guest.now c.args.thread.now g.met.H.Host.law
    (g.H.Host.state c.burn.new.self) c.execute.result (g.H.Host.state c.execute.new.host) c.execute.new.guest
    c.execute.new.thread c.requires.cost c.in-Ok.ensures.burns.0 c.in-Ok.ensures.burns.1 c.execute.ensures.goes
