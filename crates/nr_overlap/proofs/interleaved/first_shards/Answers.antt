-- The goals of `interleaved::first_shards` that no tactic closes.
use Rattle.std.proofs.Common.{◌≡◌, ◌++◌, ◌∷◌, [], None, ap, ◌∙◌, subst, arith}
use Rattle.nr_overlap.proofs.Founding.{first_serial, first_more, AreFirst}
use Rattle.nr_overlap.proofs.interleaved.first_shards.Goals as goal

pub loop-shard-preserved : goal.loop-shard-preserved
loop-shard-preserved g c =
    first_more (g.P.Phases.rules c.args.phases.now) c.loop-shard.shard c.loop-shard.shards _ c.in_ok-world.world c.new-in-loop-shard.result c.push.new.self c.loop-shard.invariant c.in_ok-world.ensures
    (c.in_ok-push.ensures.items ∙ ap (λ t. t ++ None ∷ []) c.new-row.ensures.items)
    c.in_ok-push-5.ensures.items c.in_ok-push-2.ensures.items c.in_ok-push-3.ensures.items c.in_ok-push-4.ensures.items

pub returns-clause-serial : goal.returns-clause-serial
returns-clause-serial g c =
    let r = g.P.Phases.rules c.args.phases.now in
    let all : c.loop-shard.shard ≡ r.shards = omega (arith, c.loop-shard-test.false, c.loop-shard.auto.shard-end, c.shards-shard-end.ensures.count) in
    first_serial r c.loop-shard.shards (subst (λ n. AreFirst r n c.loop-shard.shards) all c.loop-shard.invariant)
