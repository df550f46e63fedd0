-- Actions as JSON values, with the names of NEAR's JSON (Nomicon, RuntimeSpec, Actions). Bytes in hexadecimal, and
-- arguments as a text or a value, are this project's own.
use Rattle.std.specs.Prelude.{ℕ, List, Option, Some, None, is_some, Ok, Err, cond, codes, if◌then◌else◌}
use Rattle.std.specs.Str.{bytes_eq}
use Rattle.nr_bytes.specs.Reading.{◌>>=◌}
use Rattle.nr_ids.specs.declared.key.PublicKey.{PublicKey}
use Rattle.nr_records.specs.declared.access_key.AccessKey.{AccessKey}
use Rattle.nr_records.specs.declared.action.Action.{Action}
use Rattle.nr_records.specs.declared.action.Action.TheVariants.{CreateAccount, DeployContract, FunctionCall, Transfer}
use Rattle.nr_records.specs.declared.action.Action.TheVariants.{AddKey, DeleteKey, DeleteAccount}
use Rattle.serde_json.specs.Data.{Data, string, object, Members, no_members, put}
use Rattle.serde_json.specs.Find.{as_object, get}
use Rattle.serde_json.specs.Written.{compact_text, has_float}
use Rattle.nr_json.specs.Faults.{Read, fault, member_step, within}
use Rattle.nr_json.specs.Members.{member_of}
use Rattle.nr_json.specs.Plain.{number_json, number_of, amount_json, amount_of, text_of, bytes_json, bytes_of}
use Rattle.nr_json.specs.Keys.{id_of, key_json, key_of}
use Rattle.nr_json.specs.Variants.{Named, named, tagged_json, in_variant}
use Rattle.nr_json.specs.AccessKeys.{access_key_json, access_key_of}
use Rattle.nr_json.specs.declared.fault.Wrong.TheVariants.{NoAction, NoWhole}

-- ---- the members of each action
abbrev pub call_members : List ℕ → List ℕ → ℕ → ℕ → Members
call_members method args gas deposit =
    put (codes "deposit") (amount_json deposit)
    (put (codes "gas") (number_json gas) (put (codes "args") (bytes_json args)
    (put (codes "method_name") (string method) no_members)))

abbrev pub add_key_members : PublicKey → AccessKey → Members
add_key_members public_key access_key =
    put (codes "access_key") (access_key_json access_key) (put (codes "public_key") (key_json public_key) no_members)

abbrev pub action_json : Action → Data
action_json CreateAccount = string (codes "CreateAccount")
action_json (DeployContract code) = tagged_json (codes "DeployContract") (tagged_json (codes "code") (bytes_json code))
action_json (FunctionCall method args gas deposit) =
    tagged_json (codes "FunctionCall") (object (call_members method args gas deposit))
action_json (Transfer deposit) = tagged_json (codes "Transfer") (tagged_json (codes "deposit") (amount_json deposit))
action_json (AddKey public_key access_key) =
    tagged_json (codes "AddKey") (object (add_key_members public_key access_key))
action_json (DeleteKey public_key) =
    tagged_json (codes "DeleteKey") (tagged_json (codes "public_key") (key_json public_key))
action_json (DeleteAccount beneficiary) =
    tagged_json (codes "DeleteAccount") (tagged_json (codes "beneficiary_id") (string beneficiary))

unfoldable pub deploy_of : Data → Read Action
deploy_of d = do
  code ← member_of (codes "code") bytes_of d
  Ok (DeployContract code)

-- a value's text with no space; what digits a float has isn't said
abbrev pub compact_of : Data → Read (List ℕ)
compact_of d = if has_float d then Err (fault NoWhole) else Ok (compact_text d)

-- what an object says of arguments: the value of which they are the text, or else the text
abbrev pub args_under : Option Data → Data → Read (List ℕ)
args_under None d = member_of (codes "text") text_of d
args_under (Some value) d = within (member_step (codes "json")) (compact_of value)

-- arguments: bytes in hexadecimal, or an object with a member `json` or `text`
abbrev pub args_of : Data → Read (List ℕ)
args_of d = if is_some (as_object d) then args_under (get (codes "json") d) d else bytes_of d

unfoldable pub call_of : Data → Read Action
call_of d = do
  method ← member_of (codes "method_name") text_of d
  args ← member_of (codes "args") args_of d
  gas ← member_of (codes "gas") number_of d
  deposit ← member_of (codes "deposit") amount_of d
  Ok (FunctionCall method args gas deposit)

unfoldable pub transfer_of : Data → Read Action
transfer_of d = do
  deposit ← member_of (codes "deposit") amount_of d
  Ok (Transfer deposit)

unfoldable pub add_key_of : Data → Read Action
add_key_of d = do
  public_key ← member_of (codes "public_key") key_of d
  access_key ← member_of (codes "access_key") access_key_of d
  Ok (AddKey public_key access_key)

unfoldable pub delete_key_of : Data → Read Action
delete_key_of d = do
  public_key ← member_of (codes "public_key") key_of d
  Ok (DeleteKey public_key)

unfoldable pub delete_account_of : Data → Read Action
delete_account_of d = do
  beneficiary ← member_of (codes "beneficiary_id") id_of d
  Ok (DeleteAccount beneficiary)

-- ---- an action by its name: what is wrong under it is told behind it, and a name that is none is told nowhere
unfoldable pub action_under : List ℕ → Data → Read Action
action_under name d =
    cond (bytes_eq name (codes "DeployContract")) (in_variant (codes "DeployContract") (deploy_of d))
    (cond (bytes_eq name (codes "FunctionCall")) (in_variant (codes "FunctionCall") (call_of d))
    (cond (bytes_eq name (codes "Transfer")) (in_variant (codes "Transfer") (transfer_of d))
    (cond (bytes_eq name (codes "AddKey")) (in_variant (codes "AddKey") (add_key_of d))
    (cond (bytes_eq name (codes "DeleteKey")) (in_variant (codes "DeleteKey") (delete_key_of d))
    (cond (bytes_eq name (codes "DeleteAccount")) (in_variant (codes "DeleteAccount") (delete_account_of d))
    (Err (fault NoAction)))))))

abbrev pub action_named : List ℕ → Option Data → Read Action
action_named name None = cond (bytes_eq name (codes "CreateAccount")) (Ok CreateAccount) (Err (fault NoAction))
action_named name (Some d) = action_under name d

abbrev pub action_in : Option Named → Read Action
action_in None = Err (fault NoAction)
action_in (Some n) = action_named n.0 n.1

abbrev pub action_of : Data → Read Action
action_of d = action_in (named d)
