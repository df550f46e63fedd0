-- The goals of `trimming::mark_row` that no tactic closes.
use Rattle.std.proofs.Common.{◌∙◌, ap, sym, subst, refl, arith}
use Rattle.std.specs.Prelude.{ℕ, Option}
use Rattle.nr_trienodes.specs.Naming.{marked}
use Rattle.nr_trienodes.specs.Shape.{shape_at}
use Rattle.nr_trienodes.specs.Views.{IsIn}
use Rattle.nr_trienodes.proofs.Marking.{row_in, row_on, row_nothing, row_full}
use Rattle.nr_trienodes.proofs.Rows.{child_get}
use Rattle.nr_trienodes.proofs.trimming.mark_row.Goals as goal

pub returns-then-not-is_inner : goal.returns-then-not-is_inner
returns-then-not-is_inner c = row_nothing (shape_at c.args.nodes.now c.args.id).below c.args.names.now c.args.id (c.is_inner.ensures c.if-not-is_inner.true)

pub mark-requires : goal.mark-requires
mark-requires c =
    subst (IsIn _) (child_get (shape_at c.args.nodes.now c.args.id).below c.loop-x.x ∙ sym c.child.ensures.value)
    (row_in c.args.nodes.now c.args.id (shape_at c.args.nodes.now c.args.id).below c.loop-x.x c.loop-x.names c.count-sound.ensures.sound c.requires.there refl (c.loop-x.invariant.marks.same ∙ c.requires.names))

pub loop-x-preserved : goal.loop-x-preserved
loop-x-preserved c =
    row_on c.args.nodes.now c.args.id (shape_at c.args.nodes.now c.args.id).below c.loop-x.x c.args.names.now c.loop-x.names c.mark.new.names c.count-sound.ensures.sound c.requires.there refl c.requires.names c.loop-x-test.true c.loop-x.invariant
    (c.mark.ensures ∙ ap (λ (o : Option ℕ). marked c.loop-x.names o) (c.child.ensures.value ∙ sym (child_get (shape_at c.args.nodes.now c.args.id).below c.loop-x.x)))

pub returns : goal.returns
returns c = row_full c.args.nodes.now c.args.id c.loop-x.x c.args.names.now c.loop-x.names c.count-sound.ensures.sound c.requires.there (omega (arith, c.loop-x-test.false)) c.loop-x.invariant
