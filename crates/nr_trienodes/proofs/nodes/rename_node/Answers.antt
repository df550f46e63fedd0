-- The goals of `nodes::rename_node` that no tactic closes.
use Rattle.std.proofs.Common.{◌∙◌, ap, sym, map, List}
use Rattle.std.specs.Prelude.{Option, ℕ}
use Rattle.nr_trienodes.specs.Bodies.{row_of}
use Rattle.nr_trienodes.specs.Naming.{renamed}
use Rattle.nr_trienodes.specs.Shape.{child}
use Rattle.nr_trienodes.specs.declared.body.Both.{Both}
use Rattle.nr_trienodes.proofs.nodes.rename_node.Goals as goal

pub rename_packed-requires-clause-children : goal.rename_packed-requires-clause-children
rename_packed-requires-clause-children c = λ x d e.
    c.requires.children x d
    (ap (λ b. child (row_of b) x) c.in-Children.is
    ∙ ap (λ (cs : List (Option ℕ)). child cs x) (sym c.deref_mut.ensures.value) ∙ e)

pub rename_packed-requires-clause-packable : goal.rename_packed-requires-clause-packable
rename_packed-requires-clause-packable c = λ x d e.
    c.requires.packable x d
    (ap (λ b. child (map (renamed c.args.names.now) (row_of b)) x) c.in-Children.is
    ∙ ap (λ (cs : List (Option ℕ)). child (map (renamed c.args.names.now) cs) x) (sym c.deref_mut.ensures.value) ∙ e)

pub rename_packed-requires-in-Both-clause-children : goal.rename_packed-requires-in-Both-clause-children
rename_packed-requires-in-Both-clause-children c = λ x d e.
    c.requires.children x d
    (ap (λ b. child (row_of b) x) c.in-Both.is
    ∙ ap (λ (b : Both). child b.row x) (sym c.deref_mut-in-Both.ensures.value) ∙ e)

pub rename_packed-requires-in-Both-clause-packable : goal.rename_packed-requires-in-Both-clause-packable
rename_packed-requires-in-Both-clause-packable c = λ x d e.
    c.requires.packable x d
    (ap (λ b. child (map (renamed c.args.names.now) (row_of b)) x) c.in-Both.is
    ∙ ap (λ (b : Both). child (map (renamed c.args.names.now) b.row) x) (sym c.deref_mut-in-Both.ensures.value) ∙ e)
