-- The goals of `blocks::blocks_of` that no tactic closes.
use Rattle.std.proofs.Common.{◌≡◌, ℕ, List, length, replicate, ap, ◌∙◌}
use Rattle.std.proofs.lemmas.List.{length-replicate}
use Rattle.nr_gen.proofs.Lists.{turns_begin, turns_grow}
use Rattle.nr_gen.specs.Chain.{block_of}
use Rattle.nr_gen.proofs.blocks.blocks_of.Goals as goal

pub loop-below-init : goal.loop-below-init
loop-below-init c =
    let zeros : c.in_ok-nonces.nonces.items ≡ replicate c.args.shards 0 = c.in_ok-nonces.ensures.items_if_clones_equal (λ y e. e) in
    record {
      made = ap (λ (z : List ℕ). (c.new-list.result.items, (c.args.start, z))) zeros ∙ turns_begin (block_of c.args.shards) (c.args.start, replicate c.args.shards 0) _ c.new-list.ensures.items;
      nonces = ap length zeros ∙ length-replicate c.args.shards 0;
    }

pub loop-below-preserved : goal.loop-below-preserved
loop-below-preserved c = record {
  made = turns_grow (block_of c.args.shards) _ _ _ _ _ _ _ c.loop-below.invariant.made c.in_ok-block.ensures.made c.in_ok-push.ensures.items;
  nonces = c.block.ensures.nonces;
}
