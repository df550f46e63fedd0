-- The goals of `listing::keys_of` that no tactic closes.
use Rattle.std.proofs.Common.{◌++◌, ap, sym, ◌∙◌, arith}
use Rattle.nr_triedef.specs.Root.{Paths}
use Rattle.nr_trienodes.specs.Listing.{keys_in}
use Rattle.nr_trienodes.proofs.Pushing.{last_place, last_count, last_places, last_whole}
use Rattle.nr_trienodes.proofs.listing.keys_of.Goals as goal

pub list_place-requires-clause-whole : goal.list_place-requires-clause-whole
list_place-requires-clause-whole c = (last_whole c.args.nodes.now c.on.places.items c.pop.new.self.items c.in-Some.place c.in-Some.ensures.items c.on.invariant.whole).0

pub on-smaller : goal.on-smaller
on-smaller c = omega (arith, c.in_ok-list_place.ensures.count, last_count c.args.nodes.now c.on.places.items c.pop.new.self.items c.in-Some.place c.in-Some.ensures.items)

pub on-preserved : goal.on-preserved
on-preserved c = record {
  keys =
      c.in_ok-list_place.ensures.keys
      ∙ ap (λ (ps : Paths). c.on.keys.items ++ keys_in ps) (sym (last_place c.args.nodes.now c.on.places.items c.pop.new.self.items c.in-Some.place c.in-Some.ensures.items))
      ∙ c.on.invariant.keys;
  places = c.in_ok-list_place.ensures.places (last_places c.args.nodes.now c.on.places.items c.pop.new.self.items c.in-Some.place c.in-Some.ensures.items c.on.invariant.places).0;
  whole = c.in_ok-list_place.ensures.whole (last_whole c.args.nodes.now c.on.places.items c.pop.new.self.items c.in-Some.place c.in-Some.ensures.items c.on.invariant.whole).1;
}
