-- Access keys as JSON values, with the names of NEAR's JSON (Nomicon, DataStructures, AccessKey).
use Rattle.std.specs.Prelude.{ℕ, List, Option, Some, None, Ok, Err, cond, codes}
use Rattle.std.specs.Str.{bytes_eq}
use Rattle.nr_bytes.specs.Reading.{◌>>=◌}
use Rattle.nr_records.specs.declared.access_key.AccessKey.{AccessKey}
use Rattle.nr_records.specs.declared.access_key.CallPermission.{CallPermission}
use Rattle.nr_records.specs.declared.access_key.Permission.{Permission}
use Rattle.nr_records.specs.declared.access_key.Permission.TheVariants.{Call, Full}
use Rattle.serde_json.specs.Data.{Data, string, object, Members, no_members, put}
use Rattle.nr_json.specs.Faults.{Read, fault}
use Rattle.nr_json.specs.Members.{member_of}
use Rattle.nr_json.specs.Plain.{number_json, number_of, amount_json, amount_of, text_of}
use Rattle.nr_json.specs.Lists.{list_json, list_of, option_json, option_of}
use Rattle.nr_json.specs.Variants.{Named, named, tagged_json, in_variant}
use Rattle.nr_json.specs.declared.fault.Wrong.TheVariants.{NoPermission}

-- ---- what a key for calls may do
abbrev pub call_permission_members : CallPermission → Members
call_permission_members c =
    put (codes "method_names") (list_json string c.methods)
    (put (codes "receiver_id") (string c.receiver)
    (put (codes "allowance") (option_json amount_json c.allowance) no_members))

abbrev pub call_permission_json : CallPermission → Data
call_permission_json c = object (call_permission_members c)

unfoldable pub call_permission_of : Data → Read CallPermission
call_permission_of d = do
  allowance ← member_of (codes "allowance") (option_of amount_of) d
  receiver ← member_of (codes "receiver_id") text_of d
  methods ← member_of (codes "method_names") (list_of text_of) d
  Ok (record { allowance = allowance; receiver = receiver; methods = methods })

-- ---- what a key may do: `"FullAccess"`, or `{"FunctionCall": ..}`
abbrev pub permission_json : Permission → Data
permission_json (Call c) = tagged_json (codes "FunctionCall") (call_permission_json c)
permission_json Full = string (codes "FullAccess")

unfoldable pub call_of : Data → Read Permission
call_of d = do
  c ← call_permission_of d
  Ok (Call c)

-- what is wrong under the name is told behind it, and a name that is none is told nowhere
abbrev pub permission_under : List ℕ → Data → Read Permission
permission_under name d =
    cond (bytes_eq name (codes "FunctionCall")) (in_variant (codes "FunctionCall") (call_of d))
    (Err (fault NoPermission))

abbrev pub permission_named : List ℕ → Option Data → Read Permission
permission_named name None = cond (bytes_eq name (codes "FullAccess")) (Ok Full) (Err (fault NoPermission))
permission_named name (Some d) = permission_under name d

abbrev pub permission_in : Option Named → Read Permission
permission_in None = Err (fault NoPermission)
permission_in (Some n) = permission_named n.0 n.1

abbrev pub permission_of : Data → Read Permission
permission_of d = permission_in (named d)

-- ---- a key's record
abbrev pub access_key_members : AccessKey → Members
access_key_members k =
    put (codes "permission") (permission_json k.permission) (put (codes "nonce") (number_json k.nonce) no_members)

abbrev pub access_key_json : AccessKey → Data
access_key_json k = object (access_key_members k)

unfoldable pub access_key_of : Data → Read AccessKey
access_key_of d = do
  nonce ← member_of (codes "nonce") number_of d
  permission ← member_of (codes "permission") permission_of d
  Ok (record { nonce = nonce; permission = permission })
