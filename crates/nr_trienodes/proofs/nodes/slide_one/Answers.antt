-- The goals of `nodes::slide_one` that no tactic closes.
use Rattle.std.proofs.lemmas.List.{get_or-set_other}
use Rattle.std.proofs.Common.{◌∙◌, ◌+◌, ◌<◌, Some, None, ap, sym, subst, arith}
use Rattle.nr_trienodes.specs.Naming.{Names, new_name, IsSlid, Slides}
use Rattle.nr_trienodes.specs.Shape.{shape_at}
use Rattle.nr_trienodes.specs.Views.{shapes}
use Rattle.nr_trienodes.proofs.Sounds.{back_sound}
use Rattle.nr_trienodes.proofs.Sliding.{low_names, slides_passed, slides_on}
use Rattle.nr_trienodes.proofs.nodes.slide_one.Goals as goal

pub returns-then-not-is_kept-clause-slides : goal.returns-then-not-is_kept-clause-slides
returns-then-not-is_kept-clause-slides c = λ nodes marks sound long lt h. slides_passed nodes marks (shapes c.args.nodes.now.items) c.args.names.now c.args.id c.args.next (omega arith) h (sym c.if-not-is_kept.ensures)

pub returns-clause-slides : goal.returns-clause-slides
returns-clause-slides c = λ nodes marks sound long lt h.
    subst (λ (t : Names). Slides nodes marks (shapes c.move_node.new.nodes.items) t (c.args.id + 1) (c.args.next + 1)) (sym c.set.ensures)
    (slides_on nodes marks (shapes c.args.nodes.now.items) (shapes c.move_node.new.nodes.items) c.args.names.now c.args.id c.args.next (back_sound nodes sound) long lt h
    (sym c.if-not-is_kept.ensures)
    (subst (λ (t : Names). IsSlid t (shapes c.args.nodes.now.items) (shapes c.move_node.new.nodes.items) c.args.id c.args.next) c.set.ensures c.move_node.ensures))

pub move_node-requires-clause-packable : goal.move_node-requires-clause-packable
move_node-requires-clause-packable c = λ x d e.
    let low : d < c.args.next =
    low_names c.args.names.now c.set.new.self (shape_at (shapes c.args.nodes.now.items) c.args.id).below
    c.args.id c.args.next c.set.ensures c.requires.children c.requires.names x d e in
    omega (arith, low, c.requires.lower, c.requires.there, c.requires.few)

pub returns-clause-older : goal.returns-clause-older
returns-clause-older c = λ d less. ap (λ (names : Names). new_name names d) c.set.ensures ∙ get_or-set_other c.args.names.now c.args.id d (Some c.args.next) None (λ is. omega arith)
