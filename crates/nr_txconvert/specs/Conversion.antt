-- How a transaction becomes a receipt. After the Nomicon, Runtime Specification, Transactions.
use Rattle.std.specs.Prelude.{◌≡◌, ◌≢◌, ℕ, ◌-◌, ◌*◌, [], Option, Some, None, option_map, Result, Ok, Err}
use Rattle.std.specs.FinMap.{get}
use Rattle.nr_config.specs.Config.{Config}
use Rattle.nr_ids.specs.declared.key.Hash32.{Hash32}
use Rattle.nr_ids.specs.Derive.{derived}
use Rattle.nr_records.specs.declared.access_key.AccessKey.{AccessKey}
use Rattle.nr_records.specs.declared.access_key.Permission.{Permission}
use Rattle.nr_records.specs.declared.access_key.Permission.TheVariants.{Call, Full}
use Rattle.nr_records.specs.declared.account.Account.{Account}
use Rattle.nr_records.specs.declared.receipt.Body.TheVariants.{Act}
use Rattle.nr_records.specs.declared.receipt.Receipt.{Receipt}
use Rattle.nr_records.specs.declared.transaction.Transaction.{Transaction}
use Rattle.nr_records.specs.Transactions.{transaction_bytes}
use Rattle.nr_state.specs.Changes.{set_key}
use Rattle.nr_state.specs.View.{StateView, with_world}
use Rattle.nr_state.specs.World.{World, with_account}
use Rattle.nr_state.specs.declared.place.Place.{Place}
use Rattle.nr_triedef.specs.Node.{digest}
use Rattle.nr_txconvert.specs.Costs.{sending_gas, gas_cost, whole_cost}
use Rattle.nr_txconvert.specs.Refusals.{refusals, first_refusal}
use Rattle.nr_txconvert.specs.declared.converted.Converted.{Converted}
use Rattle.nr_txconvert.specs.declared.fault.TxFault.{TxFault}
use Rattle.nr_txconvert.specs.declared.fault.TxFault.TheVariants.{NoSigner, NoKey, Memory}

-- ---- what a transaction becomes
abbrev pub transaction_hash : Transaction → Hash32
transaction_hash tx = digest (transaction_bytes tx)

abbrev pub receipt_of : Transaction → Place → Receipt
receipt_of tx place =
    record {
      predecessor = tx.signer;
      receiver = tx.receiver;
      receipt_id = derived (transaction_hash tx) place.height.0 0;
      body = Act (record {
        signer = tx.signer;
        signer_key = tx.public_key;
        gas_price = place.price;
        outputs = [];
        inputs = [];
        actions = tx.actions;
      });
    }

-- the gas for sending is burnt
abbrev pub converted : Config → Transaction → Place → Converted
converted c tx place =
    record { receipt = receipt_of tx place; gas = sending_gas c tx; burnt = sending_gas c tx * place.price }

-- ---- what the signer is left with: it paid the whole cost, its key has the transaction's nonce, and an allowance is
-- less by the cost of the gas
abbrev pub lowered : ℕ → Permission → Permission
lowered cost (Call call) = Call (record call { allowance = option_map (λ allowance. allowance - cost) call.allowance })
lowered cost Full = Full

abbrev pub paid_account : Config → Transaction → ℕ → Account → Account
paid_account c tx price account = record account { amount = account.amount - whole_cost c tx price }

abbrev pub used_key : Config → Transaction → ℕ → AccessKey → AccessKey
used_key c tx price key = record { nonce = tx.nonce; permission = lowered (gas_cost c tx price) key.permission }

abbrev pub charged : Config → World → Transaction → ℕ → Account → AccessKey → World
charged c w tx price account key =
    set_key c (with_account w tx.signer (paid_account c tx price account)) tx.signer tx.public_key
    (used_key c tx price key)

-- ---- the whole: the world behind it and what the transaction becomes, or the first refusal
abbrev pub Conversion : Type 0
Conversion = Result (World × Converted) TxFault

abbrev pub unless_refused : Config → World → Transaction → Place → Account → AccessKey → Option TxFault → Conversion
unless_refused c w tx place account key None = Ok (charged c w tx place.price account key, converted c tx place)
unless_refused c w tx place account key (Some fault) = Err fault

abbrev pub by_key : Config → World → Transaction → Place → Account → Option AccessKey → Conversion
by_key c w tx place account None = Err NoKey
by_key c w tx place account (Some key) =
    unless_refused c w tx place account key (first_refusal (refusals c tx place.price account key))

abbrev pub by_signer : Config → World → Transaction → Place → Option Account → Conversion
by_signer c w tx place None = Err NoSigner
by_signer c w tx place (Some account) = by_key c w tx place account (get w.keys (tx.signer, tx.public_key))

unfoldable pub convert : Config → World → Transaction → Place → Conversion
convert c w tx place = by_signer c w tx place (get w.accounts tx.signer)

-- ---- what the call answers: exactly that; a refusal leaves
-- the state as it was. Where memory runs out nothing is said.
abbrev pub Converts : Config → Result Converted TxFault → StateView → StateView → Transaction → Place → Type 0
Converts c (Ok made) old new tx place =
    (convert c old.world tx place ≡ Ok (new.world, made)) × (new ≡ with_world old new.world)
Converts c (Err fault) old new tx place = fault ≢ Memory → (convert c old.world tx place ≡ Err fault) × (new ≡ old)
