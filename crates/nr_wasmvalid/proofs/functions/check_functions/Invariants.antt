-- What holds at the loops of `functions::check_functions`.
use Rattle.std.proofs.Common.{◌+◌, Result, drop}
use Rattle.nr_wasmvalid.specs.Verdict.{FuncsJudge}
use Rattle.nr_wasmvalid.specs.declared.fault.ValidFault.{ValidFault}
use Rattle.nr_wasmvalid.proofs.functions.check_functions.Given as goal

abbrev pub invariant-loop-index : goal.invariant-loop-index
invariant-loop-index l =
    (r : Result (Unit {0}) ValidFault) → FuncsJudge l.module (l.first + l.index) (drop l.index l.numbers) (drop l.index l.bodies) r → FuncsJudge l.module l.first l.numbers l.bodies r
