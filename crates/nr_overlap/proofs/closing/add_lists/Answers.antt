-- The goals of `closing::add_lists` that no tactic closes.
use Rattle.std.proofs.Common.{◌≡◌, ◌<◌, ◌++◌, sym, ap, ◌∙◌, arith}
use Rattle.nr_overlap.specs.Held.{cell}
use Rattle.nr_overlap.specs.Outcome.{left_list, left_at, sent}
use Rattle.nr_overlap.proofs.Orders.{flat_map_longer}
use Rattle.nr_overlap.proofs.Last.{no_lists_past}
use Rattle.nr_overlap.proofs.closing.add_lists.Goals as goal

pub loop-dest-preserved : goal.loop-dest-preserved
loop-dest-preserved g c =
    let r = g.P.Phases.rules c.args.phases.now in
    let d = c.loop-dest.dest in
    let below : d < r.shards = omega (arith, c.loop-dest-test.true, c.among-dest-end.ensures.within, c.shards.ensures.count) in
    let list_is : c.take_cell-list.result ≡ left_list r c.args.source c.args.height d =
    c.take_cell-list.ensures.list ∙ c.loop-dest.invariant.later d (omega arith) below in
    record {
      later = λ e from lt. c.take_cell-list.ensures.others e (λ same. omega (arith, same, from)) ∙ c.loop-dest.invariant.later e (omega (arith, from)) lt;
      added = flat_map_longer (left_at r c.args.source c.args.height) 0 d d c.args.all.now.items c.loop-dest.all.items c.add_sent.new.all.items c.loop-dest.invariant.added
          (c.in_ok-add_sent.ensures ∙ ap (λ list. c.loop-dest.all.items ++ sent c.args.source c.args.height d list) list_is) (omega arith);
    }

pub returns : goal.returns
returns g c =
    let r = g.P.Phases.rules c.args.phases.now in
    c.loop-dest.invariant.added
    ∙ ap (λ more. c.args.all.now.items ++ more) (no_lists_past r c.args.source c.args.height c.args.lists.items c.loop-dest.dest c.requires
    (omega (arith, c.loop-dest.auto.dest-end, c.among-dest-end.ensures.within, c.shards.ensures.count))
    (λ d from lt. ap (λ lists. cell lists d) (sym c.deref.ensures.value) ∙ c.among-dest-end.ensures.past d (omega (arith, from, c.loop-dest-test.false)) (omega (arith, lt, c.shards.ensures.count))))
