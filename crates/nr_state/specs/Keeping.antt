-- Which changes keep a valid world valid, and what changes do to the tokens of a world. Laws of this project's own.
use Rattle.std.specs.Prelude.{◌≡◌, ℕ, ◌+◌, ◌^◌, ◌≤◌, true, false, List, ◌∷◌, Option, None, Some, IsSome}
use Rattle.std.specs.FinMap.{get}
use Rattle.nr_config.specs.Config.{Config, account_bytes_entry}
use Rattle.nr_fees.specs.Fees.{receipt_tokens}
use Rattle.nr_ids.specs.Grammar.{is_system}
use Rattle.nr_ids.specs.declared.key.Hash32.{Hash32}
use Rattle.nr_ids.specs.declared.key.PublicKey.{PublicKey}
use Rattle.nr_records.specs.declared.access_key.AccessKey.{AccessKey}
use Rattle.nr_records.specs.declared.account.Account.{Account}
use Rattle.nr_records.specs.declared.receipt.Receipt.{Receipt}
use Rattle.nr_state.specs.Changes.{set_key, removed_key, set_code, set_datum, removed_datum, without_account}
use Rattle.nr_state.specs.Changes.{with_received, without_received, with_postponed, without_postponed, with_delayed}
use Rattle.nr_state.specs.Changes.{served_front}
use Rattle.nr_state.specs.Queues.{is_act}
use Rattle.nr_state.specs.Tokens.{world_tokens, postponed_sum, delayed_sum}
use Rattle.nr_state.specs.Usage.{zero_hash, key_usage}
use Rattle.nr_state.specs.Valid.{IsValidWorld, IsBounded, Waits}
use Rattle.nr_state.specs.View.{has_input, repeats_input}
use Rattle.nr_state.specs.World.{World, with_account, with_key, account_tokens}

abbrev pub IsWithin : Config → World → Type 0
IsWithin c w = world_tokens c w ≤ 2 ^ 127

-- the inputs of a receipt are its own: distinct, and none is one of another receipt that waits at the receiver
pub record HasOwnInputs (w : World) (r : Receipt) : Type 0 where
  pub distinct : repeats_input r ≡ false
  pub apart : (k : List ℕ × List ℕ) (q : Receipt) (id : Hash32) → get w.postponed k ≡ Some q → q.receiver ≡ r.receiver
      → has_input q id ≡ true → has_input r id ≡ false

pub record IsKept (c : Config) (w : World) : Type 0 where
  -- writes and removals of what an account owns
  pub key_set : (id : List ℕ) (key : PublicKey) (access : AccessKey) → IsSome (get w.accounts id)
      → IsValidWorld c (set_key c w id key access)
  pub key_removed : (id : List ℕ) (key : PublicKey) → IsSome (get w.accounts id)
      → IsValidWorld c (removed_key c w id key)
  -- a key that costs what it cost before leaves its owner's usage alone
  pub key_again : (id : List ℕ) (key : PublicKey) (old new : AccessKey) → get w.keys (id, key) ≡ Some old
      → key_usage c key new ≡ key_usage c key old → IsValidWorld c (with_key w id key new)
  pub key_alike : (id : List ℕ) (key : PublicKey) (old new : AccessKey) → get w.keys (id, key) ≡ Some old
      → key_usage c key new ≡ key_usage c key old → set_key c w id key new ≡ with_key w id key new
  pub code_set : (id code : List ℕ) → IsSome (get w.accounts id) → IsValidWorld c (set_code w id code)
  pub datum_set : (id key value : List ℕ) → IsSome (get w.accounts id) → IsValidWorld c (set_datum c w id key value)
  pub datum_removed : (id key : List ℕ) → IsSome (get w.accounts id) → IsValidWorld c (removed_datum c w id key)
  -- an account gets another balance, is made, or goes with all that it owns
  pub account_changed : (id : List ℕ) (old new : Account) → get w.accounts id ≡ Some old → new.storage_usage
      ≡ old.storage_usage → new.code_hash ≡ old.code_hash
      → IsWithin c (with_account w id new) → IsValidWorld c (with_account w id new)
  pub account_made : (id : List ℕ) (new : Account) → get w.accounts id ≡ None → is_system id ≡ false
      → new.storage_usage ≡ account_bytes_entry c → new.code_hash ≡ zero_hash
      → IsWithin c (with_account w id new) → IsValidWorld c (with_account w id new)
  pub account_removed : (id : List ℕ) → IsValidWorld c (without_account w id)
  -- a datum comes, and each receipt that waits still waits; a datum is used
  pub received : (id : List ℕ) (data_id : Hash32) (bytes : Option (List ℕ))
      → ((k : List ℕ × List ℕ) (r : Receipt) → get w.postponed k ≡ Some r
      → Waits (with_received w id data_id bytes) r)
      → IsValidWorld c (with_received w id data_id bytes)
  pub used : (id : List ℕ) (data_id : Hash32) → IsValidWorld c (without_received w id data_id)
  -- a receipt begins to wait for data, or waits no more
  pub postponed : (r : Receipt) → is_act r.body ≡ true → Waits w r → HasOwnInputs w r → IsBounded c r
      → IsWithin c (with_postponed w r) → IsValidWorld c (with_postponed w r)
  pub released : (id : List ℕ) (receipt_id : Hash32) → IsValidWorld c (without_postponed w id receipt_id)
  -- a receipt joins the queue, or the one at the front leaves it
  pub delayed : (r : Receipt) → IsBounded c r → IsWithin c (with_delayed w r) → IsValidWorld c (with_delayed w r)
  pub served : IsValidWorld c (served_front w w.delayed)

pub record MovesTokens (c : Config) (w : World) : Type 0 where
  -- what an account owns has no tokens
  pub key_set : (id : List ℕ) (key : PublicKey) (access : AccessKey) → world_tokens c (set_key c w id key access)
      ≡ world_tokens c w
  pub key_removed : (id : List ℕ) (key : PublicKey) → world_tokens c (removed_key c w id key) ≡ world_tokens c w
  pub key_again : (id : List ℕ) (key : PublicKey) (access : AccessKey) → world_tokens c (with_key w id key access)
      ≡ world_tokens c w
  pub code_set : (id code : List ℕ) → world_tokens c (set_code w id code) ≡ world_tokens c w
  pub datum_set : (id key value : List ℕ) → world_tokens c (set_datum c w id key value) ≡ world_tokens c w
  pub datum_removed : (id key : List ℕ) → world_tokens c (removed_datum c w id key) ≡ world_tokens c w
  -- an account comes or goes with its tokens
  pub account_changed : (id : List ℕ) (old new : Account) → get w.accounts id ≡ Some old
      → world_tokens c (with_account w id new) + account_tokens old ≡ world_tokens c w + account_tokens new
  pub account_made : (id : List ℕ) (new : Account) → get w.accounts id ≡ None → world_tokens c (with_account w id new)
      ≡ world_tokens c w + account_tokens new
  pub account_removed : (id : List ℕ) (old : Account) → get w.accounts id ≡ Some old
      → world_tokens c (without_account w id) + account_tokens old ≡ world_tokens c w
  -- a datum has no tokens
  pub received : (id : List ℕ) (data_id : Hash32) (bytes : Option (List ℕ))
      → world_tokens c (with_received w id data_id bytes) ≡ world_tokens c w
  pub used : (id : List ℕ) (data_id : Hash32) → world_tokens c (without_received w id data_id) ≡ world_tokens c w
  -- a receipt that begins to wait brings its tokens, and takes them along
  pub postponed : (r : Receipt) → get w.postponed (r.receiver, r.receipt_id.0) ≡ None
      → world_tokens c (with_postponed w r) ≡ world_tokens c w + receipt_tokens c r
  pub released : (id : List ℕ) (receipt_id : Hash32) (r : Receipt) → get w.postponed (id, receipt_id.0) ≡ Some r
      → world_tokens c (without_postponed w id receipt_id) + receipt_tokens c r ≡ world_tokens c w
  pub delayed : (r : Receipt) → world_tokens c (with_delayed w r) ≡ world_tokens c w + receipt_tokens c r
  pub served : (r : Receipt) (rest : List Receipt) → w.delayed ≡ r ∷ rest
      → world_tokens c (served_front w w.delayed) + receipt_tokens c r ≡ world_tokens c w

-- what changes do to any amount that receipts have, summed over the postponed and over the delayed ones
pub record MovesReceipts (f : Receipt → ℕ) (w : World) : Type 0 where
  pub postponed : (r : Receipt) → get w.postponed (r.receiver, r.receipt_id.0) ≡ None
      → postponed_sum f (with_postponed w r) ≡ postponed_sum f w + f r
  pub released : (id : List ℕ) (receipt_id : Hash32) (r : Receipt) → get w.postponed (id, receipt_id.0) ≡ Some r
      → postponed_sum f (without_postponed w id receipt_id) + f r ≡ postponed_sum f w
  pub delayed : (r : Receipt) → delayed_sum f (with_delayed w r) ≡ delayed_sum f w + f r
  pub served : (r : Receipt) (rest : List Receipt) → w.delayed ≡ r ∷ rest
      → delayed_sum f (served_front w w.delayed) + f r ≡ delayed_sum f w

-- what waits is the same
pub record KeepsWaiting (w after : World) : Type 0 where
  pub received : after.received ≡ w.received
  pub postponed : after.postponed ≡ w.postponed
  pub delayed : after.delayed ≡ w.delayed
  pub served : after.served ≡ w.served

-- what accounts own changes nothing of what waits
pub record OwnsApart (c : Config) (w : World) : Type 0 where
  pub key_set : (id : List ℕ) (key : PublicKey) (access : AccessKey) → KeepsWaiting w (set_key c w id key access)
  pub key_removed : (id : List ℕ) (key : PublicKey) → KeepsWaiting w (removed_key c w id key)
  pub code_set : (id code : List ℕ) → KeepsWaiting w (set_code w id code)
  pub datum_set : (id key value : List ℕ) → KeepsWaiting w (set_datum c w id key value)
  pub datum_removed : (id key : List ℕ) → KeepsWaiting w (removed_datum c w id key)
