-- Tests of a world: whether its names fit, and whether it is valid. After the Nomicon, Data Structures (Account,
-- Access Keys) and Runtime Specification (Receipts); the counts and the bounds are this project's.
use Rattle.std.specs.Prelude.{ℕ, ◌+◌, ◌^◌, ◌==◌, ◌&&◌, ◌||◌, Bool, not, List, length, is_some, nat_le, nat_lt}
use Rattle.std.specs.FinMap.{FinMap, get, entries}
use Rattle.std.specs.List.{list_all, list_any}
use Rattle.std.specs.Str.{bytes_eq}
use Rattle.std.specs.declared.cmp.Ordering.{Ordering}
use Rattle.nr_config.specs.Config.{Config}
use Rattle.nr_fees.specs.Fees.{price_of, gas_of}
use Rattle.nr_entries.specs.Told.{is_id, is_id_and_hash, is_key, same_pair}
use Rattle.nr_ids.specs.Grammar.{is_system}
use Rattle.nr_records.specs.declared.account.Account.{Account}
use Rattle.nr_records.specs.declared.receipt.Receipt.{Receipt}
use Rattle.nr_state.specs.Flat.{inputs_of, is_missing}
use Rattle.nr_state.specs.Queues.{is_act}
use Rattle.nr_state.specs.Tokens.{world_tokens}
use Rattle.nr_state.specs.Valid.{usage_in, code_hash_in}
use Rattle.nr_state.specs.View.{has_input, repeats_input}
use Rattle.nr_state.specs.World.{World}

-- each entry of a map passes a test
abbrev pub each : {K X : Type 0} {R : K → K → Ordering} → FinMap R X → (K → X → Bool) → Bool
each m test = list_all (λ e. test e.0 e.1) (entries m)

-- ---- names: account ids, public keys, and the ids of data and of receipts; and the numbers of the delayed queue, of
-- eight bytes
abbrev pub accounts_named : World → Bool
accounts_named w = each w.accounts (λ id account. is_id id)

abbrev pub keys_named : World → Bool
keys_named w = each w.keys (λ k access. is_id k.0 && is_key k.1)

abbrev pub code_named : World → Bool
code_named w = each w.code (λ id code. is_id id)

abbrev pub data_named : World → Bool
data_named w = each w.data_of (λ k value. is_id k.0)

abbrev pub received_named : World → Bool
received_named w = each w.received (λ k bytes. is_id_and_hash k)

abbrev pub postponed_named : World → Bool
postponed_named w = each w.postponed (λ k r. is_id_and_hash k)

abbrev pub names_fit : World → Bool
names_fit w = accounts_named w && keys_named w && code_named w && data_named w && received_named w && postponed_named w

abbrev pub numbers_fit : World → Bool
numbers_fit w = nat_lt (w.served + length w.delayed) (2 ^ 64)

-- ---- accounts with what they own
-- no account is the system; each is counted as the storage that it uses, and has the hash of its code
abbrev pub account_fits : Config → World → List ℕ → Account → Bool
account_fits c w id account =
    not (is_system id) && account.storage_usage == usage_in c w id && bytes_eq account.code_hash.0 (code_hash_in w id).0

abbrev pub is_account : World → List ℕ → Bool
is_account w id = is_some (get w.accounts id)

-- each key, each code and each datum is of an account
abbrev pub accounts_fit : Config → World → Bool
accounts_fit c w =
    each w.accounts (account_fits c w)
    && each w.keys (λ k access. is_account w k.0)
    && each w.code (λ id code. is_account w id)
    && each w.data_of (λ k value. is_account w k.0)

-- ---- receipts that wait
-- the gas price and the prepaid gas fit in 64 bits
abbrev pub is_bounded : Config → Receipt → Bool
is_bounded c r = nat_lt (price_of r) (2 ^ 64) && nat_lt (gas_of c r) (2 ^ 64)

-- two receipts at one receiver have an input in common
abbrev pub shares_input : Receipt → Receipt → Bool
shares_input q r = bytes_eq q.receiver r.receiver && list_any (has_input r) (inputs_of q.body)

-- a receipt of actions under its receiver and id, with distinct inputs of which some hasn't been received
abbrev pub postponed_fits : Config → World → List ℕ × List ℕ → Receipt → Bool
postponed_fits c w k r =
    same_pair k (r.receiver, r.receipt_id.0) && is_act r.body && not (repeats_input r)
    && list_any (is_missing w r.receiver) (inputs_of r.body) && is_bounded c r

-- no two postponed receipts have an input in common
abbrev pub inputs_apart : World → Bool
inputs_apart w = each w.postponed (λ j q. each w.postponed (λ k r. same_pair j k || not (shares_input q r)))

abbrev pub waiting_fits : Config → World → Bool
waiting_fits c w = each w.postponed (postponed_fits c w) && inputs_apart w && list_all (is_bounded c) w.delayed

-- ---- a valid world
abbrev pub is_valid_world : Config → World → Bool
is_valid_world c w = accounts_fit c w && waiting_fits c w && nat_le (world_tokens c w) (2 ^ 127)
