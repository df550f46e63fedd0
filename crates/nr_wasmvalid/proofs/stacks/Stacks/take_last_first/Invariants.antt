-- What holds at the loops of `stacks::Stacks::take_last_first`.
use Rattle.std.proofs.Common.{◌≡◌, ◌≤◌, length, take, reverse}
use Rattle.nr_wasmvalid.specs.Shapes.{take_all}
use Rattle.nr_wasmvalid.specs.Frames.{SameAround}
use Rattle.nr_wasmvalid.proofs.stacks.Stacks.take_last_first.Given as goal

abbrev pub invariant-loop-left : goal.invariant-loop-left
invariant-loop-left l = record {
  within : l.left ≤ length l.wanted;
  taken : take_all (reverse (take l.left l.wanted)) l.self.shape ≡ take_all (reverse l.wanted) l.fn.self.shape;
  around : SameAround l.fn.self l.self;
}

abbrev pub decreases-loop-left : goal.decreases-loop-left
decreases-loop-left l = l.left
