-- The goals of `routing::spread` that no tactic closes.
use Rattle.std.proofs.Common.{◌≡◌, ◌∷◌, [], ◌++◌, List, sym, ap, ◌∙◌, append_assoc}
use Rattle.std.specs.Vec.Iter.{into_iter_items}
use Rattle.nr_records.specs.declared.receipt.Receipt.{Receipt}
use Rattle.nr_layout.proofs.Parts.{parts_next}
use Rattle.nr_layout.proofs.routing.spread.Goals as goal

pub loop-receipt-preserved : goal.loop-receipt-preserved
loop-receipt-preserved c =
    let at = c.loop-receipt in
    let r = c.in-Some.receipt in
    let steps : into_iter_items at.receipt-iterator ≡ r ∷ into_iter_items c.next.new.self = c.in-Some.ensures.steps.0 in (
      parts_next c.args.boundaries.now at.yielded at.lists.items c.send.new.lists.items r c.count_up_to-shard.result c.in_ok-send.ensures at.invariant.0 c.count_up_to-shard.ensures.shard c.count_up_to-shard.ensures.within,
      at.invariant.1 ∙ ap (λ (l : List Receipt). at.yielded ++ l) steps ∙ sym (append_assoc at.yielded (r ∷ []) _),
    )
