-- The goals of `packed::Packed::row` that no tactic closes.
use Rattle.std.proofs.Common.{◌∙◌, sym, arith}
use Rattle.nr_trienodes.specs.Packing.{child_of}
use Rattle.nr_trienodes.proofs.Rows.{each_same}
use Rattle.nr_trienodes.proofs.packed.Packed.row.Goals as goal

pub returns : goal.returns
returns c =
    sym (each_same child_of c.self.inside.numbers c.loop-x.row (c.self.told ∙ sym c.loop-x.invariant.full) (λ k lt. c.loop-x.invariant.made k (omega (arith, lt, c.self.told, c.loop-x-test.false))))
    ∙ c.self.view_is
