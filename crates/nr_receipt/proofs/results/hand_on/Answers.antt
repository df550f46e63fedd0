-- The goals of `results::hand_on` that no tactic closes.
use Rattle.std.proofs.Common.{◌<◌, length, sym, ap, ◌∙◌, arith}
use Rattle.nr_receipt.specs.Drawing.{handed_on}
use Rattle.nr_receipt.proofs.Handing.{handed_at, handed_none}
use Rattle.nr_receipt.proofs.results.hand_on.Goals as goal

pub returns-then-eq : goal.returns-then-eq
returns-then-eq c =
    let inside : c.loop-index.index < length c.loop-index.made = omega (arith, c.loop-index-test.true, c.loop-index.auto.made) in
    handed_at c.args.outputs.now c.args.id c.loop-index.made c.args.made.now c.loop-index.index c.index-made-index.result c.index-made-index-then-eq.result c.add_outputs.new.body c.loop-index.invariant.same inside c.loop-index.invariant.none c.index-made-index.is (sym c.eq.ensures ∙ c.if-eq.true)
    c.in_ok-add_outputs.ensures

pub returns : goal.returns
returns c =
    sym (handed_none c.args.outputs.now c.args.id c.loop-index.made (λ k d h. c.loop-index.invariant.none k d (omega (arith, h, c.loop-index-test.false, c.loop-index.auto.made)))) ∙ ap (λ list. handed_on c.args.outputs.now c.args.id list) c.loop-index.invariant.same
