-- The bindings of the context, each as its row. After the NEAR Nomicon, "Bindings Specification", Context API and
-- Economics API.
use Rattle.std.specs.Prelude.{ℕ, ◌+◌}
use Rattle.nr_bytes.specs.Numbers.{little}
use Rattle.nr_ids.specs.Keys.{key_bytes}
use Rattle.nr_hostctx.specs.Accounts.{account_of}
use Rattle.nr_hostctx.specs.Acts.{Act, ◌>>=◌, look, begin, to_register, to_guest}

-- ---- ids, the signer's key and the input go to a register
unfoldable pub current_account_id : ℕ → Act (Unit {0})
current_account_id reg = do
  begun ← begin
  id ← look (λ s. s.context.current)
  to_register reg id

unfoldable pub signer_account_id : ℕ → Act (Unit {0})
signer_account_id reg = do
  begun ← begin
  id ← look (λ s. s.context.signer)
  to_register reg id

unfoldable pub predecessor_account_id : ℕ → Act (Unit {0})
predecessor_account_id reg = do
  begun ← begin
  id ← look (λ s. s.context.predecessor)
  to_register reg id

unfoldable pub signer_account_pk : ℕ → Act (Unit {0})
signer_account_pk reg = do
  begun ← begin
  key ← look (λ s. key_bytes s.context.signer_key)
  to_register reg key

unfoldable pub input : ℕ → Act (Unit {0})
input reg = do
  begun ← begin
  args ← look (λ s. s.context.args)
  to_register reg args

-- ---- of the block
unfoldable pub block_index : Act ℕ
block_index = do
  begun ← begin
  look (λ s. s.context.height.0)

unfoldable pub block_timestamp : Act ℕ
block_timestamp = do
  begun ← begin
  look (λ s. s.context.timestamp)

-- ---- of the account and the gas, as they stand now
unfoldable pub storage_usage : Act ℕ
storage_usage = do
  begun ← begin
  look (λ s. (account_of s).storage_usage)

unfoldable pub prepaid_gas : Act ℕ
prepaid_gas = do
  begun ← begin
  look (λ s. s.gas.limit)

unfoldable pub used_gas : Act ℕ
used_gas = do
  begun ← begin
  look (λ s. s.gas.burnt + s.gas.promised)

-- ---- amounts are 16 bytes in the guest's memory
unfoldable pub account_balance : ℕ → Act (Unit {0})
account_balance ptr = do
  begun ← begin
  amount ← look (λ s. (account_of s).amount)
  to_guest ptr (little 16 amount)

unfoldable pub account_locked_balance : ℕ → Act (Unit {0})
account_locked_balance ptr = do
  begun ← begin
  locked ← look (λ s. (account_of s).locked)
  to_guest ptr (little 16 locked)

unfoldable pub attached_deposit : ℕ → Act (Unit {0})
attached_deposit ptr = do
  begun ← begin
  deposit ← look (λ s. s.context.deposit)
  to_guest ptr (little 16 deposit)
