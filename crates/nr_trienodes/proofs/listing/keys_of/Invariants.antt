-- What holds at the loops of `listing::keys_of`.
use Rattle.std.proofs.Common.{◌≡◌, ◌++◌}
use Rattle.nr_trienodes.specs.Listing.{keys_in, paths_of, place_paths, count_of, ArePlaces, AreWhole}
use Rattle.nr_trienodes.proofs.listing.keys_of.Given as goal

abbrev pub invariant-on : goal.invariant-on
invariant-on l = record {
  keys : l.keys.items ++ keys_in (paths_of l.nodes l.places.items) ≡ keys_in (place_paths l.nodes l.fn.top);
  places : ArePlaces l.nodes l.places.items;
  whole : AreWhole (paths_of l.nodes l.places.items);
}

abbrev pub decreases-on : goal.decreases-on
decreases-on l = count_of l.nodes l.places.items
