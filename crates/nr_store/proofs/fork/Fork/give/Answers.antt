-- The goals of `fork::Fork::give` that no tactic closes.
use Rattle.std.proofs.Common.{◌≡◌, ◌<◌, ◌+◌, ◌∷◌, [], length, length-append, map, subst, sym, ap, ◌∙◌, arith}
use Rattle.std.specs.List.{range_with_len}
use Rattle.nr_triedef.specs.Root.{Paths, under}
use Rattle.nr_store.specs.Tries.{Branching, cut, whole}
use Rattle.nr_store.proofs.Levels.{made_more}
use Rattle.nr_store.proofs.fork.Fork.give.Goals as goal

pub invariant_of-self-2 : goal.invariant_of-self-2
invariant_of-self-2 c =
    let more : length c.push.new.self.items ≡ length c.self.inside.made.items + 1 = ap length c.in_ok-push.ensures.items ∙ length-append c.self.inside.made.items (c.args.child ∷ []) in
    let room : length c.self.inside.made.items < 16 = subst (λ (b : Branching). length b.made < 16) (sym c.self.view_is) c.requires.room in
    let child : c.args.child ≡ whole (under (length c.self.inside.made.items) c.self.inside.rest) =
    c.requires.next ∙ ap (λ (b : Branching). whole (under (length b.made) (cut b.keys))) (sym c.self.view_is) ∙ ap (λ (r : Paths). whole (under (length c.self.inside.made.items) r)) (sym c.self.invariant.rest) in
    record {
      many = c.self.invariant.many;
      order = c.self.invariant.order;
      rest = c.self.invariant.rest;
      made = made_more c.self.inside.rest (length c.self.inside.made.items) c.push.new.self.items c.self.inside.made.items c.args.child c.self.invariant.made child c.in_ok-push.ensures.items ∙ ap (λ n. map (λ nibble. whole (under nibble c.self.inside.rest)) (range_with_len 0 n)) (sym more);
      few = omega arith;
    }
