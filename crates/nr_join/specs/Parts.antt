-- What the parts of the code answer: the data that were read, and whether a receipt lacks nothing. This project's own.
use Rattle.std.specs.Prelude.{◌≡◌, ℕ, not, Bool, true, false, List, Option, Some, None}
use Rattle.std.specs.List.{list_any}
use Rattle.nr_ids.specs.declared.key.Hash32.{Hash32}
use Rattle.nr_join.specs.Offering.{data_for, lacks_input}
use Rattle.nr_records.specs.declared.receipt.Receipt.{Receipt}
use Rattle.nr_state.specs.Flat.{is_missing}
use Rattle.nr_state.specs.World.{World}

-- all data under these ids, or none where one hasn't been received
abbrev pub HasData : Option (List (Option (List ℕ))) → World → List ℕ → List Hash32 → Type 0
HasData (Some found) w receiver ids = (list_any (is_missing w receiver) ids ≡ false) × (found ≡ data_for w receiver ids)
HasData None w receiver ids = list_any (is_missing w receiver) ids ≡ true

-- there is a receipt, and it lacks no input
abbrev pub is_complete : World → Option Receipt → Bool
is_complete w None = false
is_complete w (Some r) = not (lacks_input w r)
