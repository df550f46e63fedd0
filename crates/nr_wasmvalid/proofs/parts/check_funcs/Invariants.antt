-- What holds at the loops of `parts::check_funcs`.
use Rattle.std.proofs.Common.{◌≡◌, drop}
use Rattle.nr_wasmvalid.specs.Parts.{outcome, each, func_asks}
use Rattle.nr_wasmvalid.proofs.parts.check_funcs.Given as goal

abbrev pub invariant-loop-index : goal.invariant-loop-index
invariant-loop-index l = outcome (each (func_asks l.module.types) l.index (drop l.index l.funcs)) ≡ outcome (each (func_asks l.module.types) 0 l.funcs)
