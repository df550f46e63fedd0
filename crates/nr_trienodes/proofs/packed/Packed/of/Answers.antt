-- The goals of `packed::Packed::of` that no tactic closes.
use Rattle.std.proofs.Common.{◌∙◌, sym, arith}
use Rattle.nr_trienodes.specs.Packing.{child_of}
use Rattle.nr_trienodes.proofs.Rows.{child_get, each_same}
use Rattle.nr_trienodes.proofs.packed.Packed.of.Goals as goal

pub number_of-requires : goal.number_of-requires
number_of-requires c = λ d e. c.requires c.loop-x.x d (sym (child_get c.args.row.now c.loop-x.x) ∙ e)

pub returns : goal.returns
returns c =
    each_same child_of c.loop-x.numbers c.args.row.now (c.loop-x.invariant.full ∙ sym c.told-row) (λ k lt. c.loop-x.invariant.made k (omega (arith, lt, c.loop-x.invariant.full, c.loop-x-test.false)))
