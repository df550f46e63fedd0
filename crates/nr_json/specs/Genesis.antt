-- The first state of a chain as a JSON value. An account's usage and code hash may be left out. This project's own;
-- names of members as in NEAR's JSON.
use Rattle.std.specs.Prelude.{ℕ, List, Ok, Err, cond, codes}
use Rattle.std.specs.Str.{bytes_eq}
use Rattle.nr_bytes.specs.Reading.{◌>>=◌}
use Rattle.serde_json.specs.Data.{Data, string, object, Members, no_members, put}
use Rattle.nr_json.specs.Faults.{Read, fault, member_step, under}
use Rattle.nr_json.specs.Members.{member_of, optional_of, with_optional}
use Rattle.nr_json.specs.Plain.{number_json, number_of, amount_json, amount_of, text_of, bytes_json, bytes_of}
use Rattle.nr_json.specs.Keys.{id_of, hash_json, hash_of, key_json, key_of}
use Rattle.nr_json.specs.Lists.{list_json, list_of}
use Rattle.nr_json.specs.AccessKeys.{access_key_json, access_key_of}
use Rattle.nr_json.specs.declared.fault.Wrong.TheVariants.{NoKind}
use Rattle.nr_json.specs.declared.genesis.StatedAccount.{StatedAccount}
use Rattle.nr_json.specs.declared.genesis.StatedEntry.{StatedEntry}
use Rattle.nr_json.specs.declared.genesis.StatedEntry.TheVariants.{Account, Code, Key, Datum}
use Rattle.nr_json.specs.declared.genesis.StatedGenesis.{StatedGenesis}

-- ---- members
abbrev pub with_kind : List ℕ → Members → Members
with_kind kind ms = put (codes "kind") (string kind) ms

abbrev pub of_account : List ℕ → List ℕ → Members → Members
of_account kind id ms = with_kind kind (put (codes "account_id") (string id) ms)

-- ---- an entry
abbrev pub account_members : StatedAccount → Members
account_members a =
    with_optional (codes "storage_usage") number_json a.storage_usage
    (with_optional (codes "code_hash") hash_json a.code_hash
    (put (codes "locked") (amount_json a.locked) (put (codes "amount") (amount_json a.amount) no_members)))

abbrev pub entry_members : StatedEntry → Members
entry_members (Account id a) = of_account (codes "account") id (account_members a)
entry_members (Code id code) = of_account (codes "code") id (put (codes "code") (bytes_json code) no_members)
entry_members (Key id public_key access_key) =
    of_account (codes "key") id (put (codes "access_key") (access_key_json access_key)
    (put (codes "public_key") (key_json public_key) no_members))
entry_members (Datum id key value) =
    of_account (codes "datum") id (put (codes "value") (bytes_json value)
    (put (codes "key") (bytes_json key) no_members))

abbrev pub entry_json : StatedEntry → Data
entry_json e = object (entry_members e)

unfoldable pub account_of : Data → Read StatedAccount
account_of d = do
  amount ← member_of (codes "amount") amount_of d
  locked ← member_of (codes "locked") amount_of d
  code_hash ← optional_of (codes "code_hash") hash_of d
  storage_usage ← optional_of (codes "storage_usage") number_of d
  Ok (record { amount = amount; locked = locked; code_hash = code_hash; storage_usage = storage_usage })

unfoldable pub account_entry_of : Data → Read StatedEntry
account_entry_of d = do
  id ← member_of (codes "account_id") id_of d
  account ← account_of d
  Ok (Account id account)

unfoldable pub code_entry_of : Data → Read StatedEntry
code_entry_of d = do
  id ← member_of (codes "account_id") id_of d
  code ← member_of (codes "code") bytes_of d
  Ok (Code id code)

unfoldable pub key_entry_of : Data → Read StatedEntry
key_entry_of d = do
  id ← member_of (codes "account_id") id_of d
  public_key ← member_of (codes "public_key") key_of d
  access_key ← member_of (codes "access_key") access_key_of d
  Ok (Key id public_key access_key)

unfoldable pub datum_entry_of : Data → Read StatedEntry
datum_entry_of d = do
  id ← member_of (codes "account_id") id_of d
  key ← member_of (codes "key") bytes_of d
  value ← member_of (codes "value") bytes_of d
  Ok (Datum id key value)

abbrev pub entry_under : List ℕ → Data → Read StatedEntry
entry_under kind d =
    cond (bytes_eq kind (codes "account")) (account_entry_of d)
    (cond (bytes_eq kind (codes "code")) (code_entry_of d)
    (cond (bytes_eq kind (codes "key")) (key_entry_of d)
    (cond (bytes_eq kind (codes "datum")) (datum_entry_of d)
    (Err (under (member_step (codes "kind")) (fault NoKind))))))

unfoldable pub entry_of : Data → Read StatedEntry
entry_of d = do
  kind ← member_of (codes "kind") text_of d
  entry_under kind d

-- ---- the file
abbrev pub genesis_members : StatedGenesis → Members
genesis_members g =
    put (codes "entries") (list_json entry_json g.entries)
    (put (codes "boundaries") (list_json string g.boundaries) no_members)

abbrev pub genesis_json : StatedGenesis → Data
genesis_json g = object (genesis_members g)

unfoldable pub genesis_of : Data → Read StatedGenesis
genesis_of d = do
  boundaries ← member_of (codes "boundaries") (list_of id_of) d
  entries ← member_of (codes "entries") (list_of entry_of) d
  Ok (record { boundaries = boundaries; entries = entries })
