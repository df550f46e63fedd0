-- The goals of `nodes::rename_packed` that no tactic closes.
use Rattle.std.proofs.Common.{◌∙◌, ◌≡◌, ◌<◌, ap, sym, subst, set, length, None, arith}
use Rattle.std.specs.Prelude.{Option, ℕ}
use Rattle.nr_trienodes.specs.Views.{IsIn}
use Rattle.nr_trienodes.specs.Naming.{renamed}
use Rattle.nr_trienodes.proofs.Marking.{each_on, each_at, each_length, each_all, in_row}
use Rattle.nr_trienodes.proofs.Rows.{child_get, child_map_at}
use Rattle.nr_trienodes.proofs.nodes.rename_packed.Goals as goal

pub name_of-requires : goal.name_of-requires
name_of-requires c =
    let full : length c.args.row.now ≡ 16 = sym (each_length (renamed c.args.names.now) c.args.row.now c.loop-x.row c.loop-x.x c.loop-x.invariant.is) ∙ c.at-child.ensures.sixteen in
    let lt : c.loop-x.x < length c.args.row.now = omega (arith, c.loop-x-test.true) in
    subst (IsIn (length c.args.names.now))
    (sym (each_at (renamed c.args.names.now) c.args.row.now c.loop-x.row c.loop-x.x None c.loop-x.invariant.is lt) ∙ child_get c.loop-x.row c.loop-x.x ∙ sym c.at-child.ensures.child)
    (in_row c.args.row.now c.loop-x.x (length c.args.names.now) c.requires.children)

pub set-requires-clause-child : goal.set-requires-clause-child
set-requires-clause-child c = λ d e.
    let full : length c.args.row.now ≡ 16 = sym (each_length (renamed c.args.names.now) c.args.row.now c.loop-x.row c.loop-x.x c.loop-x.invariant.is) ∙ c.at-child.ensures.sixteen in
    let lt : c.loop-x.x < length c.args.row.now = omega (arith, c.loop-x-test.true) in
    c.requires.packable c.loop-x.x d
    (child_map_at (renamed c.args.names.now) c.args.row.now c.loop-x.x lt
    ∙ ap (renamed c.args.names.now) (sym (each_at (renamed c.args.names.now) c.args.row.now c.loop-x.row c.loop-x.x None c.loop-x.invariant.is lt) ∙ child_get c.loop-x.row c.loop-x.x ∙ sym c.at-child.ensures.child)
    ∙ sym c.name_of.ensures ∙ e)

pub loop-x-preserved : goal.loop-x-preserved
loop-x-preserved c =
    let full : length c.args.row.now ≡ 16 = sym (each_length (renamed c.args.names.now) c.args.row.now c.loop-x.row c.loop-x.x c.loop-x.invariant.is) ∙ c.at-child.ensures.sixteen in
    let lt : c.loop-x.x < length c.args.row.now = omega (arith, c.loop-x-test.true) in
    record {
      is = c.set.ensures
          ∙ ap (λ (r : Option ℕ). set c.loop-x.row c.loop-x.x r) (c.name_of.ensures ∙ ap (renamed c.args.names.now) (c.at-child.ensures.child ∙ sym (child_get c.loop-x.row c.loop-x.x)))
          ∙ each_on (renamed c.args.names.now) c.args.row.now c.loop-x.row c.loop-x.x None c.loop-x.invariant.is lt;
      full = λ some. full;
    }

pub returns : goal.returns
returns c = c.loop-x.invariant.is ∙ each_all (renamed c.args.names.now) c.args.row.now c.loop-x.x (let full : length c.args.row.now ≡ 16 = c.loop-x.invariant.full (omega (arith, c.loop-x-test.false)) in omega (arith, c.loop-x-test.false))
