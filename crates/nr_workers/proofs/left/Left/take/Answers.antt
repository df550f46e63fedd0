-- The goals of `left::Left::take` that no tactic closes.
use Rattle.std.proofs.Common.{◌≤◌, ◌<◌, length, sym, ap, ◌∙◌, arith}
use Rattle.std.specs.BTreeMap.{get}
use Rattle.std.specs.Ordering.{nat_cmp}
use Rattle.nr_workers.proofs.Slots.{apart_at, list_here, list_past, lists_stay}
use Rattle.nr_workers.proofs.left.Left.take.Goals as goal

pub returns-then-source-len-clause-list : goal.returns-then-source-len-clause-list
returns-then-source-len-clause-list g c =
    let past : length c.args.self.now.rows.items ≤ c.args.source = omega (arith, c.if-source-len.true, c.len.ensures, c.args.self.now.rows.ok) in
    sym (list_past c.args.self.now.rows.items c.args.source c.args.height past)

pub returns-clause-list : goal.returns-clause-list
returns-clause-list g c =
    let inside : c.args.source < length c.args.self.now.rows.items = omega (arith, c.if-source-len.false, c.len.ensures, c.args.self.now.rows.ok) in
    c.remove.ensures.value ∙ ap (λ m. get nat_cmp m c.args.height) c.index_mut.ensures.value ∙ sym (list_here c.args.self.now.rows.items c.args.source c.args.height c.index_mut.result.now inside)

pub returns-clause-others : goal.returns-clause-others
returns-clause-others g c =
    let inside : c.args.source < length c.args.self.now.rows.items = omega (arith, c.if-source-len.false, c.len.ensures, c.args.self.now.rows.ok) in
    lists_stay c.args.self.now.rows.items c.args.source c.args.height c.index_mut.result.now c.remove.new.self inside c.index_mut.ensures.value
    (λ k apart. c.remove.ensures.updates.2 k (apart_at c.args.height k apart))
