-- The goals of `listing::push_child` that no tactic closes.
use Rattle.std.proofs.Common.{◌∷◌, ◌++◌, [], ap, sym, subst, refl, ◌∙◌}
use Rattle.std.specs.Prelude.{List, ℕ, Option}
use Rattle.nr_trienodes.specs.Listing.{PushesSo}
use Rattle.nr_trienodes.proofs.listing.push_child.Goals as goal

pub returns-in_ok-push-2 : goal.returns-in_ok-push-2
returns-in_ok-push-2 c = subst (λ (o : Option ℕ). PushesSo c.args.places.now.items c.push-in-Some.new.self.items o c.args.key.now c.args.nibble) (sym c.in-Some.is) (record {
  place = record { front = c.push.new.self; node = c.in-Some.node };
  is = c.in_ok-push-2.ensures.items;
  front = c.in_ok-push.ensures.items ∙ ap (λ (f : List ℕ). f ++ c.args.nibble ∷ []) c.in_ok-front.ensures.items;
  node = refl;
})
