-- The goals of `laws::moment_laws` that no tactic closes.
use Rattle.std.proofs.Common.{◌+◌, ◌≡◌, ap, ◌∙◌, arith}
use Rattle.nr_contract_laws.proofs.Along.{each, reached}
use Rattle.nr_contract_laws.proofs.Calls.{counted, same, typed}
use Rattle.nr_contract_laws.specs.Moments.{rules, start}
use Rattle.nr_wasmexec.specs.Reduction.{run_by}
use Rattle.nr_contract_laws.proofs.laws.moment_laws.Goals as goal

pub returns-clause-same : goal.returns-clause-same
returns-clause-same c = same

pub returns-clause-typed : goal.returns-clause-typed
returns-clause-typed c = λ config w x m f n s is small r.
    typed config w x m f is c.typing_laws.ensures.made n s small r

pub returns-clause-counted : goal.returns-clause-counted
returns-clause-counted c = λ config w x m f n s is r. counted config w x m f is n s r

pub returns-clause-way : goal.returns-clause-way
returns-clause-way c = λ config w x m f n k s r. reached (rules m) (start config w x m) f n s r k

pub returns-clause-each : goal.returns-clause-each
returns-clause-each c = λ config w x m f n e.
    let more : n + 0 ≡ n = omega arith in
    each (rules m) (start config w x m) f n 0 (ap (run_by (rules m) (start config w x m) f) more ∙ e)
