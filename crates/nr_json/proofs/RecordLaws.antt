-- What stands for a record is read as the record.
use Rattle.std.proofs.Common.{ℕ, ◌^◌, List, [], ◌∷◌, refl}
use Rattle.std.specs.List.{AllByRecursion}
use Rattle.std.specs.Prelude.{codes}
use Rattle.nr_bytes.specs.Spelling.{Below}
use Rattle.nr_records.specs.Options.{IsOption}
use Rattle.nr_records.specs.declared.access_key.Permission.TheVariants.{Call, Full}
use Rattle.nr_records.specs.declared.action.Action.TheVariants.{CreateAccount, DeployContract, FunctionCall, Transfer, AddKey, DeleteKey, DeleteAccount}
use Rattle.serde_json.specs.Data.{string, no_members, put}
use Rattle.nr_json.specs.Fits.{FitsPermission, FitsAction, FitsTransaction}
use Rattle.nr_json.specs.Plain.{amount_json, amount_of, text_of, bytes_json, bytes_of}
use Rattle.nr_json.specs.Keys.{id_of, hash_json, hash_of, key_json, key_of}
use Rattle.nr_json.specs.Lists.{list_json, list_of, option_json, option_of}
use Rattle.nr_json.specs.AccessKeys.{call_permission_members, call_permission_json, call_permission_of, call_of, permission_json, permission_of, access_key_members, access_key_json, access_key_of}
use Rattle.nr_json.specs.Actions as actions
use Rattle.nr_json.specs.Actions.{args_of, call_members, add_key_members, action_json, action_of}
use Rattle.nr_json.specs.Transactions.{transaction_members, transaction_json, transaction_of}
use Rattle.nr_json.proofs.PlainLaws.{Law, amount_law, bytes_law, hash_law, key_law, id_law, list_law, option_law, member_is, optional_is}

all_texts : (xs : List (List ℕ)) → AllByRecursion (λ x. Unit {0}) xs
all_texts [] = tt
all_texts (x ∷ xs) = (tt, all_texts xs)

text_law : Law string text_of (λ x. Unit {0})
text_law x fits = refl

-- ---- access keys
call_permission_law : Law call_permission_json call_permission_of (λ c. IsOption (Below (2 ^ 128)) c.allowance)
unfolding call_permission_of
call_permission_law c fits =
    let allowance = member_is (codes "allowance") (option_of amount_of) (call_permission_members c) (option_json amount_json c.allowance) c.allowance refl (option_law amount_json amount_of (Below (2 ^ 128)) (λ x. refl) amount_law c.allowance fits) in
    let methods = member_is (codes "method_names") (list_of text_of) (call_permission_members c) (list_json string c.methods) c.methods refl (list_law string text_of (λ x. Unit {0}) text_law c.methods (all_texts c.methods)) in
    rw (allowance, methods) refl

pub permission_law : Law permission_json permission_of FitsPermission
unfolding call_of
permission_law (Call c) fits = rw (call_permission_law c fits) refl
permission_law Full fits = refl

pub access_key_law : Law access_key_json access_key_of (λ k. FitsPermission k.permission)
unfolding access_key_of
access_key_law k fits =
    let permission = member_is (codes "permission") permission_of (access_key_members k) (permission_json k.permission) k.permission refl (permission_law k.permission fits) in
    rw permission refl

-- ---- actions
pub action_law : Law action_json action_of FitsAction
unfolding actions.action_under actions.deploy_of actions.call_of actions.transfer_of actions.add_key_of actions.delete_key_of actions.delete_account_of
action_law CreateAccount fits = refl
action_law (DeployContract code) fits = rw (member_is (codes "code") bytes_of (put (codes "code") (bytes_json code) no_members) (bytes_json code) code refl (bytes_law code fits)) refl
action_law (FunctionCall method args gas deposit) fits =
    let bytes = member_is (codes "args") args_of (call_members method args gas deposit) (bytes_json args) args refl (bytes_law args fits.0) in
    let amount = member_is (codes "deposit") amount_of (call_members method args gas deposit) (amount_json deposit) deposit refl (amount_law deposit fits.1) in
    rw (bytes, amount) refl
action_law (Transfer deposit) fits = rw (member_is (codes "deposit") amount_of (put (codes "deposit") (amount_json deposit) no_members) (amount_json deposit) deposit refl (amount_law deposit fits)) refl
action_law (AddKey public_key access_key) fits =
    let key = member_is (codes "public_key") key_of (add_key_members public_key access_key) (key_json public_key) public_key refl (key_law public_key fits.0) in
    let access = member_is (codes "access_key") access_key_of (add_key_members public_key access_key) (access_key_json access_key) access_key refl (access_key_law access_key fits.1) in
    rw (key, access) refl
action_law (DeleteKey public_key) fits = rw (member_is (codes "public_key") key_of (put (codes "public_key") (key_json public_key) no_members) (key_json public_key) public_key refl (key_law public_key fits)) refl
action_law (DeleteAccount beneficiary) fits = rw (member_is (codes "beneficiary_id") id_of (put (codes "beneficiary_id") (string beneficiary) no_members) (string beneficiary) beneficiary refl (id_law beneficiary fits)) refl

-- ---- transactions
pub transaction_law : Law transaction_json transaction_of FitsTransaction
unfolding transaction_of
transaction_law t fits =
    let signer = member_is (codes "signer_id") id_of (transaction_members t) (string t.signer) t.signer refl (id_law t.signer fits.signer) in
    let key = member_is (codes "public_key") key_of (transaction_members t) (key_json t.public_key) t.public_key refl (key_law t.public_key fits.public_key) in
    let receiver = member_is (codes "receiver_id") id_of (transaction_members t) (string t.receiver) t.receiver refl (id_law t.receiver fits.receiver) in
    let hash = optional_is (codes "block_hash") hash_of (transaction_members t) (hash_json t.block_hash) t.block_hash refl (hash_law t.block_hash fits.block_hash) in
    let actions = member_is (codes "actions") (list_of action_of) (transaction_members t) (list_json action_json t.actions) t.actions refl (list_law action_json action_of FitsAction action_law t.actions fits.actions) in
    rw (signer, key, receiver, hash, actions) refl
