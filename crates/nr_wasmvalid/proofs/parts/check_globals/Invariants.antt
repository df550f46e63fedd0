-- What holds at the loops of `parts::check_globals`.
use Rattle.std.proofs.Common.{◌≡◌, drop}
use Rattle.nr_wasmvalid.specs.Parts.{outcome, each, global_asks}
use Rattle.nr_wasmvalid.proofs.parts.check_globals.Given as goal

abbrev pub invariant-loop-index : goal.invariant-loop-index
invariant-loop-index l = outcome (each (global_asks) l.index (drop l.index l.globals)) ≡ outcome (each (global_asks) 0 l.globals)
