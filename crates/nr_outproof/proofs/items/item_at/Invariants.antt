-- What holds at the loops of `items::item_at`.
use Rattle.std.proofs.Common.{◌≡◌, length}
use Rattle.std.specs.List.{flat_map, slice_get}
use Rattle.nr_outproof.specs.Items.{item_in, items}
use Rattle.nr_outproof.proofs.items.item_at.Given as goal

abbrev pub invariant-lines : goal.invariant-lines
invariant-lines l = slice_get (items l.fn.kind l.fn.chunk) l.fn.place ≡ slice_get (flat_map (item_in l.kind) l.rest) l.left

abbrev pub decreases-lines : goal.decreases-lines
decreases-lines l = length l.rest
