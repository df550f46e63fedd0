-- The goals of `hashing::gather` that no tactic closes.
use Rattle.std.proofs.Common.{◌≡◌, ◌+◌, ◌<◌, ◌++◌, length, get_or, refl, ap, ◌∙◌, arith}
use Rattle.std.proofs.lemmas.List.{get_or_default}
use Rattle.nr_trienodes.specs.Shape.{shape_at}
use Rattle.nr_trienodes.specs.Hashing.{cold}
use Rattle.nr_trienodes.proofs.Queues.{gathering_next}
use Rattle.nr_trienodes.proofs.hashing.gather.Goals as goal

pub on-preserved : goal.on-preserved
on-preserved c =
    let lt : c.on.next < length c.on.queue.items = omega (arith, c.on-test.true, c.len.ensures, c.on.queue.ok.0) in
    let at : c.index-id.result.now ≡ get_or c.on.queue.items c.on.next 0 = first_of (cc (c.index-id.ensures), cc (c.index-id.ensures, get_or_default c.on.queue.items c.on.next c.index-id.result.now 0 lt)) in
    gathering_next c.args.nodes.now c.args.root c.on.queue.items c.push_cold.new.queue.items c.on.next (c.on.next + 1) c.count-count.ensures.sound c.on.invariant lt refl
    (c.in_ok-push_cold.ensures ∙ ap (λ n. c.on.queue.items ++ cold c.args.nodes.now (shape_at c.args.nodes.now n).below) at)
