-- What holds at the loops of `listing::top_of`.
use Rattle.std.proofs.Common.{◌≡◌, ◌<◌, length}
use Rattle.nr_triedef.specs.Node.{nibbles, IsNibbles}
use Rattle.nr_trienodes.specs.Tries.{in_front, paths_at}
use Rattle.nr_trienodes.specs.Turns.{left}
use Rattle.nr_trienodes.specs.Listing.{kept}
use Rattle.nr_trienodes.proofs.listing.top_of.Given as goal

abbrev pub invariant-down : goal.invariant-down
invariant-down l = record {
  there : l.node < length l.nodes;
  small : IsNibbles l.front.items;
  paths : kept (nibbles l.prefix) (paths_at l.nodes l.root) ≡ in_front l.front.items (kept (left l.prefix l.at) (paths_at l.nodes l.node));
}

abbrev pub decreases-down : goal.decreases-down
decreases-down l = l.node
