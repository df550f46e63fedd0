-- Numbers of 64 bits in the state of a call. This project's own.
use Rattle.std.specs.Prelude.{ℕ, ◌+◌, ◌^◌, ◌<◌, ◌≤◌, length}
use Rattle.nr_config.specs.Config.{Config, extra_record_bytes, max_key_bytes, max_value_bytes}
use Rattle.nr_guest.specs.Guest.{all_bytes}
use Rattle.nr_hostctx.specs.Accounts.{account_of}
use Rattle.nr_hostctx.specs.declared.seen.HostState.{HostState}
use Rattle.nr_state.specs.declared.calls.CallContext.{CallContext}

-- the numbers of a context that a contract can ask for fit in 64 bits, and so does how many results there are
pub record FitsContext (x : CallContext) : Type 0 where
  pub gas : x.gas < 2 ^ 64
  pub height : x.height.0 < 2 ^ 64
  pub time : x.timestamp < 2 ^ 64
  pub inputs : length x.inputs < 2 ^ 64

-- the same of a state: gas is within its limit, all registers have no more bytes than they may, and so many promises
-- may be made
pub record FitsState (s : HostState) : Type 0 where
  pub within : s.gas.burnt + s.gas.promised ≤ s.gas.limit
  pub limit : s.gas.limit < 2 ^ 64
  pub context : FitsContext s.context
  pub held : all_bytes s.registers.held ≤ s.registers.limits.all_bytes
  pub registers : s.registers.limits.all_bytes < 2 ^ 64
  pub promises : s.book.max_promises < 2 ^ 64

-- how many bytes of storage the account is counted as whose contract runs
abbrev pub usage_of : HostState → ℕ
usage_of s = (account_of s).storage_usage

-- by so much a call of the host's functions can raise that at most
abbrev pub most_added : Config → ℕ
most_added c = max_key_bytes c + max_value_bytes c + extra_record_bytes c
