-- The goals of `running::turn` that no tactic closes.
use Rattle.nr_wasmexec.specs.Machine.{rules_of}
use Rattle.nr_wasmexec.proofs.Turning.{ends_sequence}
use Rattle.nr_wasmexec.proofs.running.turn.Goals as goal

pub returns-in-None-clause-turns : goal.returns-in-None-clause-turns
returns-in-None-clause-turns g c =
    ends_sequence (rules_of g.H.Host.meaning c.args.program.now c.args.limits) (g.H.Host.state c.args.host.now) c.args.guest.now c.args.thread.now c.leave.result c.leave.new.self c.in-None.ensures c.leave.ensures
