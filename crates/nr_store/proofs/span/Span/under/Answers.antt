-- The goals of `span::Span::under` that no tactic closes.
use Rattle.std.proofs.Common.{◌-◌, ◌<◌, length, take, drop, subst, sym, ap, ◌∙◌, arith}
use Rattle.std.proofs.lemmas.Bool.{eqb-true}
use Rattle.nr_triedef.specs.Root.{behind}
use Rattle.nr_store.specs.Tries.{CanWalk}
use Rattle.nr_store.proofs.Orders.{reach_more, under_slice, under_empty, slice_goes_on, walk_under, some_there}
use Rattle.nr_store.proofs.span.Span.under.Goals as goal

pub slice_bounds-entries-count : goal.slice_bounds-entries-count
slice_bounds-entries-count c = (reach_more c.args.nibble c.args.self.now c.reach-start.result c.reach-end.result c.reach-start.ensures.within c.reach-start.ensures.below c.reach-end.ensures.above)

pub slice_bounds-entries-start : goal.slice_bounds-entries-start
slice_bounds-entries-start c = (reach_more c.args.nibble c.args.self.now c.reach-start.result c.reach-end.result c.reach-start.ensures.within c.reach-start.ensures.below c.reach-end.ensures.above)

pub next-offset-requires : goal.next-offset-requires
next-offset-requires c =
    let some : 0 < length (take (c.reach-end.result - c.reach-start.result) (drop c.reach-start.result c.self.inside.entries.now)) = some_there _ c.if-is_empty.ensures in
    slice_goes_on c.args.nibble c.self.inside.offset c.self.inside.entries.now c.args.self.now c.reach-start.result (c.reach-end.result - c.reach-start.result) c.index-entries-0.result c.self.view_is c.reach-start.ensures.above (omega arith) c.index-entries-0.is

pub invariant_of-result : goal.invariant_of-result
invariant_of-result c =
    subst CanWalk (sym (under_empty c.args.nibble c.self.inside.offset c.self.inside.entries.now c.args.self.now
    c.reach-start.result c.reach-end.result c.self.view_is
    (reach_more c.args.nibble c.args.self.now c.reach-start.result c.reach-end.result c.reach-start.ensures.within
    c.reach-start.ensures.below c.reach-end.ensures.above) c.reach-start.ensures.below c.reach-start.ensures.above
    c.reach-end.ensures.below c.reach-end.ensures.above (eqb-true _ 0 (sym c.if-is_empty.ensures))))
    (walk_under c.args.nibble c.args.self.now (subst CanWalk c.self.view_is c.self.invariant))

pub returns-then-is_empty : goal.returns-then-is_empty
returns-then-is_empty c =
    under_empty c.args.nibble c.self.inside.offset c.self.inside.entries.now c.args.self.now c.reach-start.result
    c.reach-end.result c.self.view_is (reach_more c.args.nibble c.args.self.now c.reach-start.result
    c.reach-end.result c.reach-start.ensures.within c.reach-start.ensures.below c.reach-end.ensures.above)
    c.reach-start.ensures.below c.reach-start.ensures.above c.reach-end.ensures.below c.reach-end.ensures.above
    (eqb-true _ 0 (sym c.if-is_empty.ensures))

pub invariant_of-result-2 : goal.invariant_of-result-2
invariant_of-result-2 c =
    subst CanWalk (sym (ap (λ n. behind n (take (c.reach-end.result - c.reach-start.result)
    (drop c.reach-start.result c.self.inside.entries.now))) c.next-offset.ensures ∙ under_slice c.args.nibble
    c.self.inside.offset c.self.inside.entries.now c.args.self.now c.reach-start.result c.reach-end.result
    c.self.view_is (reach_more c.args.nibble c.args.self.now c.reach-start.result c.reach-end.result
    c.reach-start.ensures.within c.reach-start.ensures.below c.reach-end.ensures.above)
    c.reach-start.ensures.below c.reach-start.ensures.above c.reach-end.ensures.below c.reach-end.ensures.above))
    (walk_under c.args.nibble c.args.self.now (subst CanWalk c.self.view_is c.self.invariant))

pub returns : goal.returns
returns c =
    ap (λ n. behind n (take (c.reach-end.result - c.reach-start.result)
    (drop c.reach-start.result c.self.inside.entries.now))) c.next-offset.ensures ∙ under_slice c.args.nibble
    c.self.inside.offset c.self.inside.entries.now c.args.self.now c.reach-start.result c.reach-end.result
    c.self.view_is (reach_more c.args.nibble c.args.self.now c.reach-start.result c.reach-end.result
    c.reach-start.ensures.within c.reach-start.ensures.below c.reach-end.ensures.above) c.reach-start.ensures.below
    c.reach-start.ensures.above c.reach-end.ensures.below c.reach-end.ensures.above
