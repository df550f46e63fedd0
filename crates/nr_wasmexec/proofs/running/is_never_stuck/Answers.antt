-- The goals of `running::is_never_stuck` that no tactic closes.
use Rattle.std.proofs.Common.{refl}
use Rattle.nr_wasmexec.specs.Machine.{rules_of, runtime}
use Rattle.nr_wasmexec.proofs.Linked.{program_sound}
use Rattle.nr_wasmexec.proofs.Sound.{method_never_stuck}
use Rattle.nr_wasmexec.proofs.running.is_never_stuck.Goals as goal

pub returns : goal.returns
returns g c =
    let sound = program_sound c.module.ensures.valid.0 c.args.program.now c.module.ensures.valid.1 c.requires.hosts in
    method_never_stuck c.running_laws.ensures.goes_on c.running_laws.ensures.begins (rules_of g.H.Host.meaning c.args.program.now c.args.limits) g.met.H.Host.law sound (runtime (g.H.Host.state c.args.host.now) c.args.guest.now) c.args.func _ c.requires.guest refl c.requires.method
