-- The goals of `listing::list_place` that no tactic closes.
use Rattle.std.proofs.Common.{◌≡◌, ◌++◌, ap, sym, subst, ◌∙◌}
use Rattle.std.specs.Prelude.{List, ℕ}
use Rattle.nr_trienodes.specs.Shape.{shape_at}
use Rattle.nr_trienodes.specs.Listing.{RowPushed}
use Rattle.nr_trienodes.proofs.Pushing.{whole_key, place_listed}
use Rattle.nr_trienodes.proofs.listing.list_place.Goals as goal

pub list_key-requires-clause-even : goal.list_key-requires-clause-even
list_key-requires-clause-even c =
    let key : c.deref.result.now ≡ c.args.place.front.items ++ (shape_at c.args.nodes.now c.args.place.node).part = c.deref.ensures.value ∙ c.in_ok-extend_from_slice.ensures.items ∙ ap (λ (p : List ℕ). c.args.place.front.items ++ p) c.part.ensures in
    whole_key c.args.nodes.now c.args.place c.deref.result.now c.count-sound.ensures.sound c.requires.place.there key c.requires.whole

pub returns : goal.returns
returns c =
    let key : c.deref.result.now ≡ c.args.place.front.items ++ (shape_at c.args.nodes.now c.args.place.node).part = c.deref.ensures.value ∙ c.in_ok-extend_from_slice.ensures.items ∙ ap (λ (p : List ℕ). c.args.place.front.items ++ p) c.part.ensures in
    place_listed c.args.nodes.now c.args.place c.deref.result.now c.args.keys.now.items c.list_key.new.keys.items c.args.places.now.items c.push_children.new.places.items c.count-sound.ensures.sound c.requires.place.there key c.requires.whole c.in_ok-list_key.ensures
    (subst (λ (k : List ℕ). RowPushed c.args.nodes.now (shape_at c.args.nodes.now c.args.place.node).below k 0 c.args.places.now.items c.push_children.new.places.items) (c.deref-2.ensures.value ∙ sym c.deref.ensures.value) c.in_ok-push_children.ensures)
