-- What a chunk that is run again must keep within: its numbers are those of a sound chain. This project's own.
use Rattle.std.specs.Prelude.{◌≡◌, ℕ, ◌+◌, ◌^◌, ◌≤◌, ◌&&◌, Bool, true, false, List, length, nat_le, Option, Some, None}
use Rattle.std.specs.List.{list_all}
use Rattle.nr_config.specs.Config.{Config}
use Rattle.nr_records.specs.declared.receipt.Receipt.{Receipt}
use Rattle.nr_state.specs.Tokens.{list_tokens, world_tokens}
use Rattle.nr_state.specs.World.{World}
use Rattle.nr_worlds.specs.Valid.{is_bounded}

abbrev pub are_bounded : Config → List Receipt → Bool
are_bounded c list = list_all (is_bounded c) list

-- the gas prices and the prepaid gas of what is taken fit in 64 bits, there are at most 2^127 tokens in all, and at
-- most 2^63 receipts were ever delayed
abbrev pub are_within : Config → List Receipt → World → Bool
are_within c taken w =
    are_bounded c taken && (nat_le (world_tokens c w + list_tokens c taken) (2 ^ 127)
    && nat_le (w.served + length w.delayed) (2 ^ 63))

-- what a call answers that counts tokens: the sum, or none where a receipt isn't bounded or the sum doesn't fit
abbrev pub Counts : Option ℕ → Bool → ℕ → Type 0
Counts (Some n) bounded sum = (bounded ≡ true) × (n ≡ sum)
Counts None bounded sum = bounded ≡ true → 2 ^ 128 ≤ sum

-- what accounts have, what waits and what is taken, where each could be counted, are at most 2^127 together
abbrev pub room : Option ℕ → Option ℕ → Option ℕ → Bool
room None waiting taken = false
room (Some held) None taken = false
room (Some held) (Some waiting) None = false
room (Some held) (Some waiting) (Some taken) = nat_le (held + waiting + taken) (2 ^ 127)
