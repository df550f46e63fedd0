-- What holds at the loops of `stacks::Stacks::take`.
use Rattle.std.proofs.Common.{◌≡◌, drop}
use Rattle.nr_wasmvalid.specs.Shapes.{take_all}
use Rattle.nr_wasmvalid.specs.Frames.{SameAround}
use Rattle.nr_wasmvalid.proofs.stacks.Stacks.take.Given as goal

abbrev pub invariant-loop-one : goal.invariant-loop-one
invariant-loop-one l = record {
  taken : take_all (drop l.one-index l.wanted) l.self.shape ≡ take_all l.wanted l.fn.self.shape;
  around : SameAround l.fn.self l.self;
}
