-- A configuration: 75 numbers, which count from 1. Fees after the Nomicon, Runtime Fees; names, order and values are
-- this project's.
use Rattle.std.specs.Prelude.{◌≡◌, ℕ, ◌-◌, ◌≤◌, List, length, map, slice_index}
use Rattle.nr_config.specs.Table.{Row, table}

abbrev pub Config : Type 0
Config = List ℕ

abbrev pub entry : Config → ℕ → ℕ
entry c n = slice_index c (n - 1)

-- ---- the entries that are no fee, by name
abbrev pub gas_price : Config → ℕ
gas_price c = entry c 1

abbrev pub storage_price : Config → ℕ
storage_price c = entry c 2

abbrev pub chunk_gas_limit : Config → ℕ
chunk_gas_limit c = entry c 3

abbrev pub regular_op_cost : Config → ℕ
regular_op_cost c = entry c 4

abbrev pub max_actions : Config → ℕ
max_actions c = entry c 5

abbrev pub max_prepaid_gas : Config → ℕ
max_prepaid_gas c = entry c 6

abbrev pub account_bytes_entry : Config → ℕ
account_bytes_entry c = entry c 7

abbrev pub extra_record_bytes : Config → ℕ
extra_record_bytes c = entry c 8

abbrev pub top_level_min_len : Config → ℕ
top_level_min_len c = entry c 9

abbrev pub delete_state_limit : Config → ℕ
delete_state_limit c = entry c 10

abbrev pub reward_numerator : Config → ℕ
reward_numerator c = entry c 11

abbrev pub reward_denominator : Config → ℕ
reward_denominator c = entry c 12

abbrev pub max_code : Config → ℕ
max_code c = entry c 13

abbrev pub max_pages : Config → ℕ
max_pages c = entry c 14

abbrev pub max_call_depth : Config → ℕ
max_call_depth c = entry c 15

abbrev pub max_stack_values : Config → ℕ
max_stack_values c = entry c 16

abbrev pub max_registers : Config → ℕ
max_registers c = entry c 17

abbrev pub max_register_bytes : Config → ℕ
max_register_bytes c = entry c 18

abbrev pub max_all_register_bytes : Config → ℕ
max_all_register_bytes c = entry c 19

abbrev pub max_logs : Config → ℕ
max_logs c = entry c 20

abbrev pub max_log_bytes : Config → ℕ
max_log_bytes c = entry c 21

abbrev pub max_key_bytes : Config → ℕ
max_key_bytes c = entry c 22

abbrev pub max_value_bytes : Config → ℕ
max_value_bytes c = entry c 23

abbrev pub max_return_bytes : Config → ℕ
max_return_bytes c = entry c 24

abbrev pub max_promises : Config → ℕ
max_promises c = entry c 25

abbrev pub load_base : Config → ℕ
load_base c = entry c 26

abbrev pub load_byte : Config → ℕ
load_byte c = entry c 27

abbrev pub host_base : Config → ℕ
host_base c = entry c 28

abbrev pub host_byte : Config → ℕ
host_byte c = entry c 29

abbrev pub storage_base : Config → ℕ
storage_base c = entry c 30

abbrev pub storage_byte : Config → ℕ
storage_byte c = entry c 31

abbrev pub sha_base : Config → ℕ
sha_base c = entry c 32

abbrev pub sha_byte : Config → ℕ
sha_byte c = entry c 33

-- ---- bounds, and the configurations that are built in
-- the least number of each entry, and the greatest
unfoldable pub least : Config
least = map (λ (r : Row). r.least) table

unfoldable pub greatest : Config
greatest = map (λ (r : Row). r.greatest) table

-- the built-in configuration whose gas, fees and storage cost nothing
unfoldable pub free : Config
free = map (λ (r : Row). r.free) table

-- the built-in configuration of generated chains, where all of these cost something
unfoldable pub generated : Config
generated = map (λ (r : Row). r.generated) table

-- 75 numbers, each within its bounds; the part of burnt gas that is a reward is at most the whole
pub record IsValidConfig (c : Config) : Type 0 where
  pub whole : length c ≡ 75
  pub within : (n : ℕ) → 1 ≤ n → n ≤ 75 → (entry least n ≤ entry c n) × (entry c n ≤ entry greatest n)
  pub reward : reward_numerator c ≤ reward_denominator c
