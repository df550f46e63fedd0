-- What holds at the loops of `listing::print_all_limits`.
use Rattle.std.proofs.Common.{◌≡◌, ◌++◌, string_bytes, take}
use Rattle.std.specs.List.{flat_map}
use Rattle.nr_module.specs.Listing.{limits_line}
use Rattle.nr_module.proofs.listing.print_all_limits.Given as goal

abbrev pub invariant-loop-limits : goal.invariant-loop-limits
invariant-loop-limits l = string_bytes l.text ≡ string_bytes l.initial.text ++ flat_map (limits_line l.word) (take l.limits-index l.list)
