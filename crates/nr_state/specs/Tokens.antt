-- The tokens of the receipts that wait in a world, and of the whole world. After the Nomicon, Economics; what a
-- receipt holds is this project's.
use Rattle.std.specs.Prelude.{ℕ, ◌+◌, List, sum_by}
use Rattle.std.specs.FinMap.{values}
use Rattle.nr_config.specs.Config.{Config}
use Rattle.nr_fees.specs.Fees.{receipt_tokens}
use Rattle.nr_records.specs.declared.receipt.Receipt.{Receipt}
use Rattle.nr_state.specs.World.{World, accounts_tokens}

abbrev pub list_tokens : Config → List Receipt → ℕ
list_tokens c list = sum_by (receipt_tokens c) list

-- an amount that receipts have, of the postponed and of the delayed ones
abbrev pub postponed_sum : (Receipt → ℕ) → World → ℕ
postponed_sum f w = sum_by f (values w.postponed)

abbrev pub delayed_sum : (Receipt → ℕ) → World → ℕ
delayed_sum f w = sum_by f w.delayed

-- of the postponed and the delayed receipts
abbrev pub waiting_tokens : Config → World → ℕ
waiting_tokens c w = list_tokens c (values w.postponed) + list_tokens c w.delayed

-- of the accounts and of the receipts that wait
abbrev pub world_tokens : Config → World → ℕ
world_tokens c w = accounts_tokens w + waiting_tokens c w
