-- What holds at the loops of `listings::delayed_after`.
use Rattle.std.proofs.Common.{◌≡◌}
use Rattle.std.specs.FinMap.{get}
use Rattle.std.specs.List.{flat_map, range_with_len}
use Rattle.std.specs.Option.{option_to_list}
use Rattle.nr_state.proofs.listings.delayed_after.Given as goal

abbrev pub invariant-loop-behind : goal.invariant-loop-behind
invariant-loop-behind g l = l.found.items ≡ flat_map (λ n. option_to_list (get l.columns.columns.delayed n)) (range_with_len l.served l.behind)
