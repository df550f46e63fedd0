-- The goals of `trimming::mark_below` that no tactic closes.
use Rattle.std.proofs.Common.{◌∙◌, ◌≡◌, sym, subst, arith}
use Rattle.nr_trienodes.specs.Naming.{BelowMarked}
use Rattle.nr_trienodes.proofs.Marking.{below_on}
use Rattle.nr_trienodes.proofs.trimming.mark_below.Goals as goal

pub down-preserved-then-is_kept : goal.down-preserved-then-is_kept
down-preserved-then-is_kept c = record {
  few = omega (arith, c.down.invariant.few);
  young = omega (arith, c.down-test.true);
  below = below_on c.args.nodes.now c.args.oldest c.down.left c.args.names.now c.down.names c.mark_row.new.names c.count-left.ensures.sound (omega (arith, c.down-test.true)) c.down.invariant.few c.requires.names c.down.invariant.below (sym c.is_kept.ensures ∙ c.if-is_kept.true) c.mark_row.ensures;
}

pub returns : goal.returns
returns c =
    let is : c.down.left ≡ c.args.oldest = omega (arith, c.down.invariant.young, c.down-test.false) in
    subst (BelowMarked c.args.nodes.now c.args.oldest c.args.names.now c.down.names) is c.down.invariant.below
