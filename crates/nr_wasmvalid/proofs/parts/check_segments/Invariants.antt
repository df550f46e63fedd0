-- What holds at the loops of `parts::check_segments`.
use Rattle.std.proofs.Common.{◌≡◌, drop}
use Rattle.nr_wasmvalid.specs.Parts.{outcome, each, segment_asks}
use Rattle.nr_wasmvalid.proofs.parts.check_segments.Given as goal

abbrev pub invariant-loop-index : goal.invariant-loop-index
invariant-loop-index l = outcome (each (segment_asks l.module) l.index (drop l.index l.segments)) ≡ outcome (each (segment_asks l.module) 0 l.segments)
