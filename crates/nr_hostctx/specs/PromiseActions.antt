-- The bindings that give a promise's receipt an action, each as its row. After the NEAR Nomicon, "Bindings
-- Specification", Promises API; the fees and the order of the faults are this project's.
use Rattle.std.specs.Prelude.{◌≡◌, ℕ, ◌+◌, ◌==◌, Bool, true, false, nat_le, nat_lt, if◌then◌else◌, List}
use Rattle.std.specs.Prelude.{[], ◌∷◌, length, Option, Some, None, Result, Ok, Err}
use Rattle.std.specs.List.{slice_split}
use Rattle.std.specs.Str.{is_utf8}
use Rattle.nr_bytes.specs.Numbers.{number}
use Rattle.nr_config.specs.Config.{max_actions}
use Rattle.nr_fees.specs.Fees.{action_fee, attached, deposit_of}
use Rattle.nr_fees.specs.declared.table.Payment.TheVariants.{Execute}
use Rattle.nr_ids.specs.declared.key.PublicKey.{PublicKey}
use Rattle.nr_promises.specs.Book.{act, receiver_of, actions_of}
use Rattle.nr_promises.specs.declared.contents.Book.{Book}
use Rattle.nr_promises.specs.declared.fault.PromiseFault.{PromiseFault}
use Rattle.nr_records.specs.Ids.{key_at}
use Rattle.nr_records.specs.Reading.{all_of}
use Rattle.nr_records.specs.declared.access_key.AccessKey.{AccessKey}
use Rattle.nr_records.specs.declared.access_key.Permission.TheVariants.{Call, Full}
use Rattle.nr_records.specs.declared.action.Action.{Action}
use Rattle.nr_records.specs.declared.action.Action.TheVariants as action
use Rattle.nr_records.specs.declared.fault.RecordFault.{RecordFault}
use Rattle.nr_wasmmem.specs.declared.fault.HostStop.{HostStop}
use Rattle.nr_wasmmem.specs.declared.fault.HostStop.TheVariants as stop
use Rattle.nr_hostctx.specs.Accounts.{account_of}
use Rattle.nr_hostctx.specs.Acts.{Act, Goes, Stops, ◌>>=◌, give, look, fault, fault_if, burn, promise, begin, bytes_of}
use Rattle.nr_hostctx.specs.Acts.{guest_bytes}
use Rattle.nr_hostctx.specs.Faults.{promise_stop, bad_utf8, empty_method, balance_exceeded, bad_public_key}
use Rattle.nr_hostctx.specs.Faults.{too_many_actions}
use Rattle.nr_hostctx.specs.Costs.{is_local, sending}
use Rattle.nr_hostctx.specs.Promises.{from_book, account_id, inputs_at, place_for_one, create_promise}
use Rattle.nr_hostctx.specs.Promises.{chain_promise}
use Rattle.nr_hostctx.specs.Ready.{world_less}
use Rattle.nr_hostctx.specs.declared.promise_actions.CallArguments.{CallArguments}

-- ---- arguments
-- an amount: 16 bytes of the guest's memory
abbrev pub amount_at : ℕ → Act ℕ
amount_at ptr = do
  bytes ← guest_bytes 16 ptr
  give (number bytes)

-- the arguments of a call that go with its method: the method's name, what it is given, and how many tokens
abbrev pub call_arguments_of : List ℕ → List ℕ → ℕ → CallArguments
call_arguments_of method args amount = record { method = method; args = args; amount = amount }

unfoldable pub call_arguments : ℕ → ℕ → ℕ → ℕ → ℕ → Act CallArguments
call_arguments mlen mptr args_len args_ptr amount_ptr = do
  method ← bytes_of mlen mptr
  args ← bytes_of args_len args_ptr
  amount ← amount_at amount_ptr
  give (call_arguments_of method args amount)

-- exactly the bytes of one public key
abbrev pub key_of : Result PublicKey RecordFault → Act PublicKey
key_of (Ok key) = give key
key_of (Err e) = fault bad_public_key

abbrev pub public_key : List ℕ → Act PublicKey
public_key bytes = key_of (all_of key_at bytes)

-- bytes that are UTF-8
abbrev pub text_in : List ℕ → Act (List ℕ)
text_in bytes = if is_utf8 bytes then give bytes else fault bad_utf8

abbrev pub full_name : List ℕ → Act (List ℕ)
full_name name = if length name == 0 then fault empty_method else give name

-- a method's name: a text that isn't empty
abbrev pub method_name : List ℕ → Act (List ℕ)
method_name bytes = do
  name ← text_in bytes
  full_name name

-- method names, parted by commas; an empty text has none, and a part may be empty
abbrev pub is_comma : ℕ → Bool
is_comma b = b == 44

abbrev pub methods_in : List ℕ → List (List ℕ)
methods_in [] = []
methods_in (b ∷ text) = slice_split is_comma (b ∷ text)

-- ---- what is tried first
-- whether a promise's receipt goes to the account itself; the promise has to be there, and no joint one
abbrev pub local_if : Result (List ℕ) PromiseFault → Act Bool
local_if (Ok receiver) = look (λ s. is_local s receiver)
local_if (Err e) = λ s. Stops s (promise_stop e)

abbrev pub local_at : ℕ → Act Bool
local_at index = λ s. local_if (receiver_of s.book index) s

-- how many actions its receipt has
abbrev pub actions_at : ℕ → Act ℕ
actions_at index = λ s. from_book (actions_of s.book index) s

-- its receipt can have one more action
abbrev pub has_room : ℕ → Act (Unit {0})
has_room count = λ s. fault_if (nat_le (max_actions s.config) count) too_many_actions s

-- ---- an action: sending it is burnt, executing it and its gas are promised, its deposit leaves the account
abbrev pub send_action : Bool → Action → Act (Unit {0})
send_action local a = λ s. burn (action_fee s.config (sending local) a) s

abbrev pub prepay_action : Action → Act (Unit {0})
prepay_action a = λ s. promise (action_fee s.config Execute a + attached a) s

unfoldable pub take : ℕ → Act (Unit {0})
take deposit s =
    if nat_lt (account_of s).amount deposit
    then Stops s (stop.Fault balance_exceeded)
    else Goes (record s { world = world_less s.world s.context.current deposit }) tt

abbrev pub with_action : Result Book PromiseFault → Act (Unit {0})
with_action (Ok book) = λ s. Goes (record s { book = book }) tt
with_action (Err e) = λ s. Stops s (promise_stop e)

abbrev pub add_action : ℕ → Action → Act (Unit {0})
add_action index a = λ s. with_action (act s.book index a) s

unfoldable pub append : ℕ → Action → Act (Unit {0})
append index a = do
  local ← local_at index
  sent ← send_action local a
  paid ← prepay_action a
  taken ← take (deposit_of a)
  add_action index a

-- ---- calls
abbrev pub call_of : List ℕ → List ℕ → ℕ → ℕ → Action
call_of method args gas deposit = action.FunctionCall method args gas deposit

unfoldable pub promise_create : ℕ → ℕ → ℕ → ℕ → ℕ → ℕ → ℕ → ℕ → Act ℕ
promise_create alen aptr mlen mptr args_len args_ptr amount_ptr gas = do
  begun ← begin
  bytes ← bytes_of alen aptr
  call ← call_arguments mlen mptr args_len args_ptr amount_ptr
  receiver ← account_id bytes
  place ← place_for_one
  name ← method_name call.method
  index ← create_promise receiver
  called ← append index (call_of name call.args gas call.amount)
  give index

unfoldable pub promise_then : ℕ → ℕ → ℕ → ℕ → ℕ → ℕ → ℕ → ℕ → ℕ → Act ℕ
promise_then after alen aptr mlen mptr args_len args_ptr amount_ptr gas = do
  begun ← begin
  bytes ← bytes_of alen aptr
  call ← call_arguments mlen mptr args_len args_ptr amount_ptr
  inputs ← inputs_at after
  receiver ← account_id bytes
  place ← place_for_one
  name ← method_name call.method
  index ← chain_promise after inputs receiver
  called ← append index (call_of name call.args gas call.amount)
  give index

unfoldable pub promise_batch_action_function_call : ℕ → ℕ → ℕ → ℕ → ℕ → ℕ → ℕ → Act (Unit {0})
promise_batch_action_function_call index mlen mptr args_len args_ptr amount_ptr gas = do
  begun ← begin
  call ← call_arguments mlen mptr args_len args_ptr amount_ptr
  actions ← actions_at index
  name ← method_name call.method
  room ← has_room actions
  append index (call_of name call.args gas call.amount)

-- ---- accounts, code and transfers
unfoldable pub promise_batch_action_create_account : ℕ → Act (Unit {0})
promise_batch_action_create_account index = do
  begun ← begin
  actions ← actions_at index
  room ← has_room actions
  append index action.CreateAccount

unfoldable pub promise_batch_action_deploy_contract : ℕ → ℕ → ℕ → Act (Unit {0})
promise_batch_action_deploy_contract index len ptr = do
  begun ← begin
  code ← bytes_of len ptr
  actions ← actions_at index
  room ← has_room actions
  append index (action.DeployContract code)

unfoldable pub promise_batch_action_transfer : ℕ → ℕ → Act (Unit {0})
promise_batch_action_transfer index amount_ptr = do
  begun ← begin
  amount ← amount_at amount_ptr
  actions ← actions_at index
  room ← has_room actions
  append index (action.Transfer amount)

unfoldable pub promise_batch_action_delete_account : ℕ → ℕ → ℕ → Act (Unit {0})
promise_batch_action_delete_account index alen aptr = do
  begun ← begin
  bytes ← bytes_of alen aptr
  actions ← actions_at index
  beneficiary ← account_id bytes
  room ← has_room actions
  append index (action.DeleteAccount beneficiary)

-- ---- keys
abbrev pub full_key : ℕ → AccessKey
full_key nonce = record { nonce = nonce; permission = Full }

-- no allowance is set by 0
abbrev pub allowance_of : ℕ → Option ℕ
allowance_of amount = if amount == 0 then None else Some amount

abbrev pub call_key : ℕ → ℕ → List ℕ → List ℕ → AccessKey
call_key nonce amount receiver methods =
    record {
      nonce = nonce;
      permission = Call (record { allowance = allowance_of amount; receiver = receiver; methods = methods_in methods });
    }

unfoldable pub promise_batch_action_add_key_with_full_access : ℕ → ℕ → ℕ → ℕ → Act (Unit {0})
promise_batch_action_add_key_with_full_access index klen kptr nonce = do
  begun ← begin
  bytes ← bytes_of klen kptr
  actions ← actions_at index
  key ← public_key bytes
  room ← has_room actions
  append index (action.AddKey key (full_key nonce))

unfoldable pub promise_batch_action_add_key_with_function_call : ℕ → ℕ → ℕ → ℕ → ℕ → ℕ → ℕ → ℕ → ℕ → Act (Unit {0})
promise_batch_action_add_key_with_function_call index klen kptr nonce allowance_ptr rlen rptr mlen mptr = do
  begun ← begin
  bytes ← bytes_of klen kptr
  allowance ← amount_at allowance_ptr
  id ← bytes_of rlen rptr
  methods ← bytes_of mlen mptr
  actions ← actions_at index
  key ← public_key bytes
  receiver ← account_id id
  names ← text_in methods
  room ← has_room actions
  append index (action.AddKey key (call_key nonce allowance receiver names))

unfoldable pub promise_batch_action_delete_key : ℕ → ℕ → ℕ → Act (Unit {0})
promise_batch_action_delete_key index klen kptr = do
  begun ← begin
  bytes ← bytes_of klen kptr
  actions ← actions_at index
  key ← public_key bytes
  room ← has_room actions
  append index (action.DeleteKey key)

-- ---- what parts of the code answer
abbrev pub Names : Result (List ℕ) HostStop → List ℕ → Type 0
Names (Ok name) given = (name ≡ given) × ((length given == 0) ≡ false)
Names (Err why) given = (why ≡ stop.Fault empty_method) × ((length given == 0) ≡ true)

abbrev pub MakesKey : Result AccessKey HostStop → AccessKey → Type 0
MakesKey (Ok key) access = key ≡ access
MakesKey (Err why) access = why ≡ stop.Memory

abbrev pub MakesNames : Result (List (List ℕ)) HostStop → List (List ℕ) → Type 0
MakesNames (Ok made) names = made ≡ names
MakesNames (Err why) names = why ≡ stop.Memory
