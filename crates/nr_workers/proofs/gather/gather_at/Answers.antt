-- The goals of `gather::gather_at` that no tactic closes.
use Rattle.std.proofs.Common.{◌≡◌, ◌<◌, ◌++◌, length, sym, ap, ◌∙◌, arith}
use Rattle.std.specs.Option.{option_map, option_to_list}
use Rattle.nr_overlap.specs.Outcome.{left_list, left_at}
use Rattle.nr_workers.specs.Left.{slot_of}
use Rattle.nr_overlap.proofs.Orders.{flat_map_longer}
use Rattle.nr_workers.proofs.Slots.{none_left, slot_here, slot_set_other, others_stay}
use Rattle.std.proofs.lemmas.List.{append-nil}
use Rattle.nr_workers.proofs.gather.gather_at.Goals as goal

pub loop-dest-preserved : goal.loop-dest-preserved
loop-dest-preserved g c =
    let r = g.P.Phases.rules c.args.phases.now in
    let lefts = c.loop-dest.lefts.items in
    let d = c.loop-dest.dest in
    let old = c.index_mut.result.now in
    let below : d < r.shards = omega (arith, c.loop-dest-test.true, c.shards-dest-end.ensures.count) in
    let inside : d < length lefts = omega (arith, below, c.loop-dest.lefts.ok, c.loop-dest.invariant.long, c.requires.count) in
    let list_is : c.take-list.result ≡ left_list r c.args.source c.args.height d =
    c.take-list.ensures.list ∙ ap (λ x. slot_of x c.args.source c.args.height) c.index_mut.ensures.value ∙ sym (slot_here lefts d c.args.source c.args.height old inside) ∙ c.loop-dest.invariant.later d (omega arith) below in
    record {
      long = c.loop-dest.invariant.long;
      others = λ s t h apart. others_stay lefts d c.args.source c.args.height old c.take-list.new.self inside c.index_mut.ensures.value c.take-list.ensures.others s t h apart ∙ c.loop-dest.invariant.others s t h apart;
      later = λ s from lt. slot_set_other lefts d s c.args.source c.args.height c.take-list.new.self (λ same. omega (arith, same, from)) ∙ c.loop-dest.invariant.later s (omega (arith, from)) lt;
      added = flat_map_longer (left_at r c.args.source c.args.height) 0 d d c.args.all.now.items c.loop-dest.all.items c.add.new.all.items c.loop-dest.invariant.added
          (c.in_ok-add.ensures ∙ ap (λ list. c.loop-dest.all.items ++ option_to_list (option_map (λ l. (record { 0 = c.args.source }, record { 0 = c.args.height }, record { 0 = d }, l)) list)) list_is) (omega arith);
    }

pub returns-in_err-add-clause-others : goal.returns-in_err-add-clause-others
returns-in_err-add-clause-others g c s t h apart =
    let r = g.P.Phases.rules c.args.phases.now in
    let lefts = c.loop-dest.lefts.items in
    let d = c.loop-dest.dest in
    let below : d < r.shards = omega (arith, c.loop-dest-test.true, c.shards-dest-end.ensures.count) in
    let inside : d < length lefts = omega (arith, below, c.loop-dest.lefts.ok, c.loop-dest.invariant.long, c.requires.count) in
    others_stay lefts d c.args.source c.args.height c.index_mut.result.now c.take-list.new.self inside c.index_mut.ensures.value c.take-list.ensures.others s t h apart ∙ c.loop-dest.invariant.others s t h apart

pub returns-then-not-present-clause-added : goal.returns-then-not-present-clause-added
returns-then-not-present-clause-added g c =
    let r = g.P.Phases.rules c.args.phases.now in
    sym (ap (λ xs. c.args.all.now.items ++ xs) (none_left r c.args.source c.args.height (sym c.present.ensures ∙ c.if-not-present.true)) ∙ append-nil c.args.all.now.items)
