-- What holds at the loops of `parts::check_elements`.
use Rattle.std.proofs.Common.{◌≡◌, drop}
use Rattle.nr_wasmvalid.specs.Parts.{outcome, each, element_asks}
use Rattle.nr_wasmvalid.proofs.parts.check_elements.Given as goal

abbrev pub invariant-loop-index : goal.invariant-loop-index
invariant-loop-index l = outcome (each (element_asks l.module l.funcs) l.index (drop l.index l.elements)) ≡ outcome (each (element_asks l.module l.funcs) 0 l.elements)
