-- The goals of `gather::gather_of` that no tactic closes.
use Rattle.std.proofs.Common.{◌≡◌, ◌+◌, ◌-◌, ◌++◌, ℕ, ap, ◌∙◌, arith}
use Rattle.std.specs.List.{flat_map, range_with_len}
use Rattle.nr_overlap.specs.Outcome.{left_by_height}
use Rattle.nr_overlap.proofs.Orders.{flat_map_longer}
use Rattle.nr_workers.proofs.gather.gather_of.Goals as goal

pub loop-before-preserved : goal.loop-before-preserved
loop-before-preserved g c =
    let r = g.P.Phases.rules c.args.phases.now in
    let b = c.loop-before.before in
    record {
      long = c.gather_at.ensures.count ∙ c.loop-before.invariant.long;
      others = λ d t h apart. c.gather_at.ensures.others d t h (λ same at. apart same) ∙ c.loop-before.invariant.others d t h apart;
      later = λ d h lt from to. c.gather_at.ensures.others d c.args.source h (λ same at. omega (arith, at, from)) ∙ c.loop-before.invariant.later d h lt (omega (arith, from)) to;
      added = flat_map_longer (left_by_height r c.args.source) 1 b (b + 1) c.args.all.now.items c.loop-before.all.items c.gather_at.new.all.items c.loop-before.invariant.added c.in_ok-gather_at.ensures.added (omega arith);
    }

pub returns-clause-added : goal.returns-clause-added
returns-clause-added g c =
    let r = g.P.Phases.rules c.args.phases.now in
    let last : c.loop-before.before ≡ (r.heights + 1) - 1 = omega (arith, c.loop-before-test.false, c.loop-before.auto.before-end, c.heights-before-end.ensures) in
    c.loop-before.invariant.added ∙ ap (λ (n : ℕ). c.args.all.now.items ++ flat_map (left_by_height r c.args.source) (range_with_len 1 n)) last
