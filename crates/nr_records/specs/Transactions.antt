-- Nomicon, DataStructures, Transaction: what a signer sends, without the signature, spelled by Borsh 1.0.
use Rattle.std.specs.Prelude.{ℕ, ◌^◌, ◌<◌, List, ◌++◌}
use Rattle.nr_bytes.specs.Numbers.{little}
use Rattle.nr_bytes.specs.Reading.{Input}
use Rattle.nr_bytes.specs.Writing.{counted_bytes}
use Rattle.nr_ids.specs.declared.key.Hash32.{Hash32}
use Rattle.nr_ids.specs.declared.key.PublicKey.{PublicKey}
use Rattle.nr_records.specs.declared.action.Action.{Action}
use Rattle.nr_records.specs.declared.transaction.Transaction.{Transaction}
use Rattle.nr_records.specs.Reading.{Read, nat_at, account_id_at, list_at}
use Rattle.nr_bytes.specs.Spelling.{list, FitsList}
use Rattle.nr_bytes.specs.Fields.{pair, mapped}
use Rattle.nr_records.specs.Ids.{IsId, hash_at, key_at}
use Rattle.nr_ids.specs.Keys.{hash_bytes, IsHash, key_bytes, IsKey}
use Rattle.nr_records.specs.Actions.{action_at, action_bytes, IsAction}

abbrev pub transaction_bytes : Transaction → List ℕ
transaction_bytes t =
    counted_bytes t.signer ++ (key_bytes t.public_key
    ++ (little 8 t.nonce ++ (counted_bytes t.receiver
    ++ (hash_bytes t.block_hash ++ list action_bytes t.actions))))

abbrev pub IsTransaction : Transaction → Type 0
IsTransaction t =
    IsId t.signer × (IsKey t.public_key × ((t.nonce < 256 ^ 8)
    × (IsId t.receiver × (IsHash t.block_hash × FitsList IsAction t.actions))))

abbrev pub Fields : Type 0
Fields = List ℕ × (PublicKey × (ℕ × (List ℕ × (Hash32 × List Action))))

abbrev pub transaction_of : Fields → Transaction
transaction_of f =
    record {
      signer = f.0;
      public_key = f.1.0;
      nonce = f.1.1.0;
      receiver = f.1.1.1.0;
      block_hash = f.1.1.1.1.0;
      actions = f.1.1.1.1.1;
    }

abbrev pub fields_at : Input → Read Fields
fields_at = pair account_id_at (pair key_at (pair (nat_at 8) (pair account_id_at (pair hash_at (list_at action_at)))))

unfoldable pub transaction_at : Input → Read Transaction
transaction_at = mapped transaction_of fields_at
