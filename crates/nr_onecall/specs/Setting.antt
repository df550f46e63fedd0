-- What a call for a contract's author begins with, and what it comes to: a state that has the contract's account alone,
-- without data, and a receipt that waited for nothing. This project's own; 10^26 is what near-sdk's tests give an
-- account.
use Rattle.std.specs.Prelude.{ℕ, ◌+◌, ◌-◌, ◌^◌, min, List, [], replicate, codes}
use Rattle.nr_config.specs.Config.{Config, account_bytes_entry, gas_price}
use Rattle.nr_ids.specs.declared.key.PublicKey.TheVariants.{Ed25519}
use Rattle.nr_records.specs.declared.account.Account.{Account}
use Rattle.nr_state.specs.Calls.{Called}
use Rattle.nr_state.specs.Changes.{set_code}
use Rattle.nr_state.specs.Usage.{zero_hash}
use Rattle.nr_state.specs.World.{World, no_world, with_account}
use Rattle.nr_state.specs.declared.calls.CallContext.{CallContext}
use Rattle.nr_contract.specs.Contract.{call}
use Rattle.nr_onecall.specs.declared.request.CallRequest.{CallRequest as LentRequest}

-- the function's name, its arguments, the gas that it may burn or promise, and the tokens that come with it
pub record CallRequest : Type 0 where
  pub method : List ℕ
  pub args : List ℕ
  pub gas : ℕ
  pub deposit : ℕ

abbrev pub call_request_in : LentRequest → CallRequest
call_request_in r = record { method = r.method.now; args = r.args.now; gas = r.gas; deposit = r.deposit }

-- ---- accounts
-- the one whose code is called, and the one that calls it and signed
abbrev pub contract : List ℕ
contract = codes "contract"

abbrev pub caller : List ℕ
caller = codes "caller"

-- 10^26 tokens and those that come with the call, as far as 128 bits hold them
abbrev pub first_amount : ℕ → ℕ
first_amount deposit = min (100000000000000000000000000 + deposit) (2 ^ 128 - 1)

abbrev pub first_account : Config → ℕ → Account
first_account c deposit =
    record {
      amount = first_amount deposit;
      locked = 0;
      code_hash = zero_hash;
      storage_usage = account_bytes_entry c;
    }

-- ---- as the call begins
unfoldable pub first_world : Config → List ℕ → ℕ → World
first_world c code deposit = set_code (with_account no_world contract (first_account c deposit)) contract code

abbrev pub first_context : Config → CallRequest → CallContext
first_context c q =
    record {
      current = contract;
      predecessor = caller;
      signer = caller;
      signer_key = Ed25519 (replicate 32 0);
      method = q.method;
      args = q.args;
      deposit = q.deposit;
      gas = q.gas;
      gas_price = gas_price c;
      inputs = [];
      outputs = [];
      receipt_id = zero_hash;
      next_ordinal = 0;
      height = record { 0 = 1 };
      timestamp = 0;
    }

-- ---- what it comes to
abbrev pub called_of : Config → List ℕ → CallRequest → Called
called_of c code q = call c (first_world c code q.deposit) (first_context c q)
