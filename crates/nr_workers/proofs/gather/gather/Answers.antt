-- The goals of `gather::gather` that no tactic closes.
use Rattle.std.proofs.Common.{[], ◌∙◌, arith}
use Rattle.nr_overlap.specs.Outcome.{left_by_source}
use Rattle.nr_overlap.proofs.Orders.{flat_map_longer}
use Rattle.nr_workers.proofs.gather.gather.Goals as goal

pub loop-source-preserved : goal.loop-source-preserved
loop-source-preserved g c =
    let r = g.P.Phases.rules c.args.phases.now in
    let s = c.loop-source.source in
    record {
      long = c.gather_of.ensures.count ∙ c.loop-source.invariant.long;
      later = λ d t h lt from to le. c.gather_of.ensures.others d t h (λ same. omega (arith, same, from)) ∙ c.loop-source.invariant.later d t h lt (omega (arith, from)) to le;
      added = flat_map_longer (left_by_source r) 0 s s [] c.loop-source.all.items c.gather_of.new.all.items c.loop-source.invariant.added c.in_ok-gather_of.ensures.added (omega arith);
    }
