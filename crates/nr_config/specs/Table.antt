-- The 75 entries of a configuration, in their order, which counts from 1. Fees after the Nomicon, Runtime Fees; names,
-- order, bounds and values are this project's.
use Rattle.std.specs.Prelude.{ℕ, ◌-◌, ◌^◌, List, [], ◌∷◌, ◌++◌, map, codes, nat_eq, if◌then◌else◌}
use Rattle.std.specs.List.{flat_map, ends_with}

-- an entry's name, its least and greatest number, and its number in the two built-in configurations
pub record Row : Type 0 where
  pub name : List ℕ
  pub least : ℕ
  pub greatest : ℕ
  pub free : ℕ
  pub generated : ℕ

abbrev pub row : List ℕ → ℕ → ℕ → ℕ → ℕ → Row
row word low high first second = record { name = word; least = low; greatest = high; free = first; generated = second }

-- the entries that are no fee
abbrev pub plain_rows : List Row
plain_rows =
    row (codes "gas_price") 0 (2 ^ 64 - 1) 0 100
    ∷ row (codes "storage_price") 0 (2 ^ 64 - 1) 0 1000
    ∷ row (codes "chunk_gas_limit") 1 (10 ^ 18) (10 ^ 15) 500000
    ∷ row (codes "regular_op_cost") 1 (10 ^ 9) 1 1
    ∷ row (codes "max_actions") 1 1000 100 100
    ∷ row (codes "max_prepaid_gas") 1 (10 ^ 18) (10 ^ 15) (10 ^ 12)
    ∷ row (codes "account_bytes") 0 (10 ^ 6) 100 100
    ∷ row (codes "extra_record_bytes") 0 (10 ^ 6) 40 40
    ∷ row (codes "top_level_min_len") 0 65 0 0
    ∷ row (codes "delete_state_limit") 0 (10 ^ 9) 10000 10000
    ∷ row (codes "reward_numerator") 0 (10 ^ 6) 0 30
    ∷ row (codes "reward_denominator") 1 (10 ^ 6) 100 100
    ∷ row (codes "max_code") 1 (10 ^ 8) 4194304 4194304
    ∷ row (codes "max_pages") 1 2048 256 64
    ∷ row (codes "max_call_depth") 1 10000 1000 1000
    ∷ row (codes "max_stack_values") 1 (10 ^ 6) 100000 100000
    ∷ row (codes "max_registers") 1 10000 100 100
    ∷ row (codes "max_register_bytes") 1 (10 ^ 8) 4194304 4194304
    ∷ row (codes "max_all_register_bytes") 1 (10 ^ 8) 16777216 16777216
    ∷ row (codes "max_logs") 0 10000 100 100
    ∷ row (codes "max_log_bytes") 0 (10 ^ 6) 16384 16384
    ∷ row (codes "max_key_bytes") 1 65536 2048 2048
    ∷ row (codes "max_value_bytes") 1 (10 ^ 8) 4194304 4194304
    ∷ row (codes "max_return_bytes") 1 (10 ^ 8) 4194304 4194304
    ∷ row (codes "max_promises") 0 10000 1024 1024
    ∷ row (codes "load_base") 0 (10 ^ 12) 0 100
    ∷ row (codes "load_byte") 0 (10 ^ 12) 0 1
    ∷ row (codes "host_base") 0 (10 ^ 12) 0 10
    ∷ row (codes "host_byte") 0 (10 ^ 12) 0 1
    ∷ row (codes "storage_base") 0 (10 ^ 12) 0 50
    ∷ row (codes "storage_byte") 0 (10 ^ 12) 0 2
    ∷ row (codes "sha_base") 0 (10 ^ 12) 0 20
    ∷ row (codes "sha_byte") 0 (10 ^ 12) 0 1
    ∷ []

-- the fees in their order
abbrev pub fees : List (List ℕ)
fees =
    codes "action_receipt"
    ∷ codes "data_base"
    ∷ codes "data_byte"
    ∷ codes "create_account"
    ∷ codes "deploy_base"
    ∷ codes "deploy_byte"
    ∷ codes "call_base"
    ∷ codes "call_byte"
    ∷ codes "transfer"
    ∷ codes "add_full_key"
    ∷ codes "add_call_key_base"
    ∷ codes "add_call_key_byte"
    ∷ codes "delete_key"
    ∷ codes "delete_account"
    ∷ []

-- each fee is paid for sending to oneself, for sending to another, and for executing
abbrev pub payments : List (List ℕ)
payments = codes "_send_local" ∷ codes "_send_remote" ∷ codes "_exec" ∷ []

abbrev pub fee_row : List ℕ → List ℕ → Row
fee_row fee payment = row (fee ++ payment) 0 (10 ^ 15) 0 (if ends_with nat_eq fee (codes "_byte") then 1 else 10)

unfoldable pub table : List Row
table = plain_rows ++ flat_map (λ fee. map (fee_row fee) payments) fees
