-- The goals of `laws::typing_laws` that no tactic closes.
use Rattle.std.proofs.Common.{◌+◌, ◌≡◌, ap, ◌∙◌, arith}
use Rattle.nr_wasmexec.specs.Reduction.{run_by}
use Rattle.nr_wasmexec.specs.Machine.{rules_of, runtime}
use Rattle.nr_machine_laws.proofs.Machines.{kept, whole}
use Rattle.nr_machine_laws.proofs.Preserved.{each, raw, reached}
use Rattle.nr_machine_laws.proofs.laws.typing_laws.Goals as goal

pub returns-clause-made : goal.returns-clause-made
returns-clause-made g c = whole g.H.Host.meaning g.met.H.Host.law

pub returns-clause-kept : goal.returns-clause-kept
returns-clause-kept g c = kept g.H.Host.meaning g.met.H.Host.law

pub returns-clause-raw : goal.returns-clause-raw
returns-clause-raw g c = raw

pub returns-clause-run : goal.returns-clause-run
returns-clause-run g c = λ p l s guest f n k c r. reached (rules_of g.H.Host.meaning p l) (runtime s guest) f n c r k

pub returns-clause-each : goal.returns-clause-each
returns-clause-each g c = λ p l s guest f n answers e.
    let more : n + 0 ≡ n = omega arith in
    each (rules_of g.H.Host.meaning p l) (runtime s guest) f answers n 0
    (ap (run_by (rules_of g.H.Host.meaning p l) (runtime s guest) f) more ∙ e)
