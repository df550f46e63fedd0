-- Transactions as JSON values, with the names of NEAR's JSON (Nomicon, DataStructures, Transaction). That the hash of
-- a block may be left out is this project's own.
use Rattle.std.specs.Prelude.{Ok, codes, unwrap_or}
use Rattle.nr_bytes.specs.Reading.{◌>>=◌}
use Rattle.nr_records.specs.declared.transaction.Transaction.{Transaction}
use Rattle.nr_state.specs.Usage.{zero_hash}
use Rattle.serde_json.specs.Data.{Data, string, object, Members, no_members, put}
use Rattle.nr_json.specs.Faults.{Read}
use Rattle.nr_json.specs.Members.{member_of, optional_of}
use Rattle.nr_json.specs.Plain.{number_json, number_of}
use Rattle.nr_json.specs.Keys.{id_of, hash_json, hash_of, key_json, key_of}
use Rattle.nr_json.specs.Lists.{list_json, list_of}
use Rattle.nr_json.specs.Actions.{action_json, action_of}

abbrev pub transaction_members : Transaction → Members
transaction_members t =
    put (codes "actions") (list_json action_json t.actions)
    (put (codes "block_hash") (hash_json t.block_hash)
    (put (codes "receiver_id") (string t.receiver)
    (put (codes "nonce") (number_json t.nonce)
    (put (codes "public_key") (key_json t.public_key) (put (codes "signer_id") (string t.signer) no_members)))))

abbrev pub transaction_json : Transaction → Data
transaction_json t = object (transaction_members t)

-- the hash of a block that is left out is zeros
unfoldable pub transaction_of : Data → Read Transaction
transaction_of d = do
  signer ← member_of (codes "signer_id") id_of d
  public_key ← member_of (codes "public_key") key_of d
  nonce ← member_of (codes "nonce") number_of d
  receiver ← member_of (codes "receiver_id") id_of d
  block_hash ← optional_of (codes "block_hash") hash_of d
  actions ← member_of (codes "actions") (list_of action_of) d
  Ok (record {
    signer = signer;
    public_key = public_key;
    nonce = nonce;
    receiver = receiver;
    block_hash = unwrap_or block_hash zero_hash;
    actions = actions;
  })
