-- What holds at the loops of `parts::check_imports`.
use Rattle.std.proofs.Common.{◌≡◌, drop}
use Rattle.nr_wasmvalid.specs.Parts.{outcome, each, import_asks}
use Rattle.nr_wasmvalid.proofs.parts.check_imports.Given as goal

abbrev pub invariant-loop-index : goal.invariant-loop-index
invariant-loop-index l = outcome (each (import_asks l.module.types) l.index (drop l.index l.imports)) ≡ outcome (each (import_asks l.module.types) 0 l.imports)
