-- The goals of `span::Span::reach` that no tactic closes.
use Rattle.std.proofs.Common.{rules, subst, take, drop, List, ℕ}
use Rattle.std.proofs.lemmas.List.Sorted.{IsPartitionPoint-from_clause}
use Rattle.nr_triedef.specs.Root.{Paths}
use Rattle.nr_store.specs.Tries.{is_below}
use Rattle.nr_store.proofs.Orders.{AllBelow, NoneBelow, parted, taken_below, dropped_above}
use Rattle.nr_store.proofs.span.Span.reach.Goals as goal

pub returns-clause-below : goal.returns-clause-below
returns-clause-below c =
    let o = c.self.inside.offset in
    let es = c.self.inside.entries.now in
    let point = IsPartitionPoint-from_clause (λ (p : List ℕ × List ℕ). is_below c.args.nibble (drop o p.0)) es c.partition_point.result c.partition_point.ensures.partitioned (parted c.args.nibble o es c.self.invariant.order) (λ a r q k. search rules) in
    subst (λ (ps : Paths). AllBelow c.args.nibble (take c.partition_point.result ps)) c.self.view_is (taken_below c.args.nibble o es c.partition_point.result point.0)

pub returns-clause-above : goal.returns-clause-above
returns-clause-above c =
    let o = c.self.inside.offset in
    let es = c.self.inside.entries.now in
    let point = IsPartitionPoint-from_clause (λ (p : List ℕ × List ℕ). is_below c.args.nibble (drop o p.0)) es c.partition_point.result c.partition_point.ensures.partitioned (parted c.args.nibble o es c.self.invariant.order) (λ a r q k. search rules) in
    subst (λ (ps : Paths). NoneBelow c.args.nibble (drop c.partition_point.result ps)) c.self.view_is (dropped_above c.args.nibble o es c.partition_point.result point.1)
