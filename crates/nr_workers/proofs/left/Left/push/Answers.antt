-- The goals of `left::Left::push` that no tactic closes.
use Rattle.std.proofs.Common.{ap, ◌∙◌}
use Rattle.std.specs.Map.{lookup}
use Rattle.std.specs.BTreeMap.{is_at}
use Rattle.std.specs.Ordering.{nat_cmp}
use Rattle.nr_workers.proofs.Slots.{apart_at, list_set, lists_stay}
use Rattle.nr_workers.proofs.left.Left.push.Goals as goal

pub returns-in_err-insert-clause-others : goal.returns-in_err-insert-clause-others
returns-in_err-insert-clause-others g c =
    lists_stay c.args.self.now.rows.items c.args.source c.args.height c.index_mut.result.now c.insert.new.self c.requires c.index_mut.ensures.value
    (λ k apart. ap (lookup (is_at (nat_cmp k))) c.in_err-insert.ensures.err)

pub returns-clause-list : goal.returns-clause-list
returns-clause-list g c = list_set c.args.self.now.rows.items c.args.source c.args.height c.insert.new.self c.requires ∙ c.in_ok-insert.ensures.updates.1

pub returns-clause-others : goal.returns-clause-others
returns-clause-others g c =
    lists_stay c.args.self.now.rows.items c.args.source c.args.height c.index_mut.result.now c.insert.new.self c.requires c.index_mut.ensures.value
    (λ k apart. c.in_ok-insert.ensures.updates.2 k (apart_at c.args.height k apart))
