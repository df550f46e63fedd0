-- What a transaction costs its signer. After the Nomicon, Runtime Specification, Runtime Fees and Economics (Gas).
use Rattle.std.specs.Prelude.{ℕ, ◌+◌, ◌*◌, ◌^◌, ◌||◌, Bool, nat_le}
use Rattle.std.specs.Str.{bytes_eq}
use Rattle.nr_config.specs.Config.{Config}
use Rattle.nr_fees.specs.Fees.{send_gas, exec_gas, attached_gas, deposits}
use Rattle.nr_records.specs.declared.transaction.Transaction.{Transaction}

-- the signer sends to itself
abbrev pub is_local : Transaction → Bool
is_local tx = bytes_eq tx.signer tx.receiver

-- the gas that sending the receipt burns
abbrev pub sending_gas : Config → Transaction → ℕ
sending_gas c tx = send_gas c (is_local tx) tx.actions

-- and with it the gas to execute the receipt, and the gas attached to its calls
abbrev pub whole_gas : Config → Transaction → ℕ
whole_gas c tx = sending_gas c tx + exec_gas c tx.actions + attached_gas tx.actions

-- in tokens, at a price
abbrev pub gas_cost : Config → Transaction → ℕ → ℕ
gas_cost c tx price = whole_gas c tx * price

-- and with it all deposits
abbrev pub whole_cost : Config → Transaction → ℕ → ℕ
whole_cost c tx price = gas_cost c tx price + deposits tx.actions

-- the gas doesn't fit in 64 bits, or the whole cost in 128
abbrev pub is_too_dear : Config → Transaction → ℕ → Bool
is_too_dear c tx price = nat_le (2 ^ 64) (whole_gas c tx) || nat_le (2 ^ 128) (whole_cost c tx price)
