-- The JSON value of an action has no float.
use Rattle.std.proofs.Common.{◌≡◌, ◌∙◌, ℕ, ◌||◌, Bool, true, false, List, [], ◌∷◌, map, codes, Option, Some, None, Ordering, Less, Equal, Greater, nat_cmp, refl, ap}
use Rattle.std.specs.Ordering.{match_ordering}
use Rattle.std.specs.Cmp.Lexicographic.{slice_cmp}
use Rattle.serde_json.specs.Data.{Data, string, Members, no_members, member, object, put}
use Rattle.serde_json.specs.View.{items_of}
use Rattle.serde_json.specs.Written.{compact_text, has_float, items_have_float, members_have_float}
use Rattle.nr_ids.specs.declared.key.PublicKey.{PublicKey}
use Rattle.nr_records.specs.declared.access_key.AccessKey.{AccessKey}
use Rattle.nr_records.specs.declared.access_key.CallPermission.{CallPermission}
use Rattle.nr_records.specs.declared.access_key.Permission.{Permission}
use Rattle.nr_records.specs.declared.access_key.Permission.TheVariants.{Call, Full}
use Rattle.nr_records.specs.declared.action.Action.{Action}
use Rattle.nr_records.specs.declared.action.Action.TheVariants.{CreateAccount, DeployContract, FunctionCall, Transfer}
use Rattle.nr_records.specs.declared.action.Action.TheVariants.{AddKey, DeleteKey, DeleteAccount}
use Rattle.nr_json.specs.AccessKeys.{access_key_json, call_permission_json, permission_json}
use Rattle.nr_json.specs.Actions.{action_json, add_key_members, call_members}
use Rattle.nr_json.specs.Keys.{key_json}
use Rattle.nr_json.specs.Lists.{list_json, option_json}
use Rattle.nr_json.specs.Plain.{amount_json, bytes_json, number_json}
use Rattle.nr_json.specs.Variants.{tagged_json}

-- ---- what is put together of values without floats
both : (a b : Bool) → a ≡ false → b ≡ false → (a || b) ≡ false
both false b e f = f
both true b e f = absurd cc

first : (a b : Bool) → (a || b) ≡ false → a ≡ false
first false b e = refl
first true b e = absurd cc

second : (a b : Bool) → (a || b) ≡ false → b ≡ false
second false b e = e
second true b e = absurd cc

put_plain : (k : List ℕ) (d : Data) (ms : Members) → has_float d ≡ false → members_have_float ms ≡ false → members_have_float (put k d ms) ≡ false
put_plain k d no_members e f = both (has_float d) false e refl
put_plain k d (member l x ms) e f = by (put_plain k d ms e rest_plain) (slice_cmp nat_cmp k l)
  where
    x_plain : has_float x ≡ false
    x_plain = first (has_float x) (members_have_float ms) f

    rest_plain : members_have_float ms ≡ false
    rest_plain = second (has_float x) (members_have_float ms) f

    by : members_have_float (put k d ms) ≡ false → (o : Ordering) → members_have_float (match_ordering o (member k d (member l x ms)) (member l d ms) (member l x (put k d ms))) ≡ false
    by rest Less = both (has_float d) (has_float x || members_have_float ms) e f
    by rest Equal = both (has_float d) (members_have_float ms) e rest_plain
    by rest Greater = both (has_float x) (members_have_float (put k d ms)) x_plain rest

tagged_plain : (k : List ℕ) (d : Data) → has_float d ≡ false → has_float (tagged_json k d) ≡ false
tagged_plain k d e = put_plain k d no_members e refl

texts_plain : (texts : List (List ℕ)) → items_have_float (items_of (map string texts)) ≡ false
texts_plain [] = refl
texts_plain (t ∷ ts) = texts_plain ts

-- ---- a key for calls
allowance_plain : (allowance : Option ℕ) → has_float (option_json amount_json allowance) ≡ false
allowance_plain None = refl
allowance_plain (Some n) = refl

call_plain : (c : CallPermission) → has_float (call_permission_json c) ≡ false
call_plain c =
    let one : Members = put (codes "allowance") (option_json amount_json c.allowance) no_members in
    let two : Members = put (codes "receiver_id") (string c.receiver) one in
    put_plain (codes "method_names") (list_json string c.methods) two (texts_plain c.methods)
    (put_plain (codes "receiver_id") (string c.receiver) one refl
    (put_plain (codes "allowance") (option_json amount_json c.allowance) no_members (allowance_plain c.allowance) refl))

permission_plain : (p : Permission) → has_float (permission_json p) ≡ false
permission_plain (Call c) = tagged_plain (codes "FunctionCall") (call_permission_json c) (call_plain c)
permission_plain Full = refl

key_plain : (k : AccessKey) → has_float (access_key_json k) ≡ false
key_plain k =
    let one : Members = put (codes "nonce") (number_json k.nonce) no_members in
    put_plain (codes "permission") (permission_json k.permission) one (permission_plain k.permission)
    (put_plain (codes "nonce") (number_json k.nonce) no_members refl refl)

-- ---- actions
added_plain : (public_key : PublicKey) (access_key : AccessKey) → has_float (object (add_key_members public_key access_key)) ≡ false
added_plain public_key access_key =
    let one : Members = put (codes "public_key") (key_json public_key) no_members in
    put_plain (codes "access_key") (access_key_json access_key) one (key_plain access_key)
    (put_plain (codes "public_key") (key_json public_key) no_members refl refl)

called_plain : (method args : List ℕ) (gas deposit : ℕ) → has_float (object (call_members method args gas deposit)) ≡ false
called_plain method args gas deposit =
    let one : Members = put (codes "method_name") (string method) no_members in
    let two : Members = put (codes "args") (bytes_json args) one in
    let three : Members = put (codes "gas") (number_json gas) two in
    put_plain (codes "deposit") (amount_json deposit) three refl
    (put_plain (codes "gas") (number_json gas) two refl
    (put_plain (codes "args") (bytes_json args) one refl
    (put_plain (codes "method_name") (string method) no_members refl refl)))

action_plain : (a : Action) → has_float (action_json a) ≡ false
action_plain CreateAccount = refl
action_plain (DeployContract code) =
    tagged_plain (codes "DeployContract") (tagged_json (codes "code") (bytes_json code)) (tagged_plain (codes "code") (bytes_json code) refl)
action_plain (FunctionCall method args gas deposit) =
    tagged_plain (codes "FunctionCall") (object (call_members method args gas deposit)) (called_plain method args gas deposit)
action_plain (Transfer deposit) =
    tagged_plain (codes "Transfer") (tagged_json (codes "deposit") (amount_json deposit)) (tagged_plain (codes "deposit") (amount_json deposit) refl)
action_plain (AddKey public_key access_key) =
    tagged_plain (codes "AddKey") (object (add_key_members public_key access_key)) (added_plain public_key access_key)
action_plain (DeleteKey public_key) =
    tagged_plain (codes "DeleteKey") (tagged_json (codes "public_key") (key_json public_key)) (tagged_plain (codes "public_key") (key_json public_key) refl)
action_plain (DeleteAccount beneficiary) =
    tagged_plain (codes "DeleteAccount") (tagged_json (codes "beneficiary_id") (string beneficiary)) (tagged_plain (codes "beneficiary_id") (string beneficiary) refl)

-- so its text is the compact one
pub action_text : (a : Action) (d : Data) (text : List ℕ) → d ≡ action_json a → (has_float d ≡ false → text ≡ compact_text d) → text ≡ compact_text (action_json a)
action_text a d text same written =
    written (ap has_float same ∙ action_plain a) ∙ ap compact_text same
