-- The goals of `listing::top_of` that no tactic closes.
use Rattle.std.proofs.Common.{◌≡◌, ◌∷◌, ◌++◌, [], ap, sym, ◌∙◌, arith}
use Rattle.std.specs.Prelude.{List, ℕ}
use Rattle.nr_triedef.specs.Node.{nibbles}
use Rattle.nr_trienodes.specs.Shape.{shape_at}
use Rattle.nr_trienodes.specs.Tries.{in_front, paths_at}
use Rattle.nr_trienodes.specs.Listing.{kept}
use Rattle.nr_trienodes.proofs.Pushing.{front_none, front_deeper, small_none, small_deeper}
use Rattle.nr_trienodes.proofs.listing.top_of.Goals as goal

pub down-init : goal.down-init
down-init c = record {
  there = c.requires;
  small = small_none c.new-front.result.items c.new-front.ensures.items;
  paths = sym (ap (λ (f : List ℕ). in_front f (kept (nibbles c.args.prefix.now) (paths_at c.args.nodes.now c.args.root))) c.new-front.ensures.items ∙ front_none (kept (nibbles c.args.prefix.now) (paths_at c.args.nodes.now c.args.root)));
}

pub down-preserved : goal.down-preserved
down-preserved c =
    let more : c.push.new.self.items ≡ (c.down.front.items ++ (shape_at c.args.nodes.now c.down.node).part) ++ c.in-Deeper.nibble ∷ [] =
    c.in_ok-push-in-Deeper.ensures.items ∙ ap (λ (f : List ℕ). f ++ c.in-Deeper.nibble ∷ []) (c.in_ok-extend_from_slice-in-Deeper.ensures.items ∙ ap (λ (p : List ℕ). c.down.front.items ++ p) c.part.ensures) in
    record {
      there = omega (arith, c.in-Deeper.ensures.there, c.down.invariant.there);
      small = small_deeper c.args.nodes.now c.down.node c.in-Deeper.nibble c.down.front.items c.push.new.self.items c.allocator.ensures c.down.invariant.there more c.in-Deeper.ensures.small c.down.invariant.small;
      paths = front_deeper c.args.nodes.now c.args.root c.down.node c.in-Deeper.child c.in-Deeper.nibble c.args.prefix.now c.down.at c.in-Deeper.next c.down.front.items c.push.new.self.items more c.down.invariant.paths c.in-Deeper.ensures;
    }
