-- What holds at the loops of `listing::push_children`.
use Rattle.std.proofs.Common.{◌≤◌}
use Rattle.nr_trienodes.specs.Listing.{RowPushed}
use Rattle.nr_trienodes.proofs.listing.push_children.Given as goal

abbrev pub invariant-row : goal.invariant-row
invariant-row l = record { few : l.left ≤ 16; pushed : RowPushed l.nodes l.row l.key l.left l.initial.places.items l.places.items }

abbrev pub decreases-row : goal.decreases-row
decreases-row l = l.left
