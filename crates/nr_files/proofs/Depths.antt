-- How deep what stands for a file nests: less than a text may.
use Rattle.std.proofs.Common.{ℕ, suc, ◌≤◌, List, [], ◌∷◌, map, Option, Some, None, Ordering, Less, Equal, Greater, arith}
use Rattle.std.specs.Ordering.{match_ordering, nat_cmp}
use Rattle.std.specs.Cmp.Lexicographic.{slice_cmp}
use Rattle.std.specs.Prelude.{codes}
use Rattle.serde_json.specs.Data.{Data, string, Members, no_members, member, put, depth, items_depth, members_depth}
use Rattle.serde_json.specs.Read.{max_depth}
use Rattle.serde_json.specs.View.{items_of}
use Rattle.nr_records.specs.declared.access_key.Permission.TheVariants.{Call, Full}
use Rattle.nr_records.specs.declared.action.Action.TheVariants.{CreateAccount, DeployContract, FunctionCall, Transfer, AddKey, DeleteKey, DeleteAccount}
use Rattle.nr_reshard.specs.declared.chain_file.ChainFile.{ChainFile}
use Rattle.nr_json.specs.AccessKeys.{call_permission_json, permission_json, access_key_json}
use Rattle.nr_json.specs.Actions.{action_json}
use Rattle.nr_json.specs.Blocks.{chunk_json, block_json, version_json, stated_version, blocks_json}
use Rattle.nr_blocks.specs.declared.block.Block.{Block}
use Rattle.nr_blocks.specs.declared.blocks_file.BlocksFile.{BlocksFile}
use Rattle.nr_blocks.specs.declared.version.Version.TheVariants.{One, Two}
use Rattle.nr_json.specs.ChainFiles.{reshard_json, stated_json, third_json}
use Rattle.nr_json.specs.Genesis.{account_members, entry_json, genesis_json}
use Rattle.nr_json.specs.Keys.{hash_json}
use Rattle.nr_json.specs.Lists.{list_json, option_json}
use Rattle.nr_json.specs.Members.{with_optional}
use Rattle.nr_json.specs.Plain.{number_json, amount_json}
use Rattle.nr_json.specs.Transactions.{transaction_json}
use Rattle.nr_json.specs.declared.chain_file.StatedBlocks.TheVariants.{Plain, Third}
use Rattle.nr_json.specs.declared.genesis.StatedAccount.{StatedAccount}
use Rattle.nr_json.specs.declared.genesis.StatedEntry.TheVariants.{Account, Code, Key, Datum}

-- ---- members
by_order : (o : Ordering) (a b c : Members) (n : ℕ) → members_depth a ≤ n → members_depth b ≤ n → members_depth c ≤ n → members_depth (match_ordering o a b c) ≤ n
by_order Less a b c n less equal greater = less
by_order Equal a b c n less equal greater = equal
by_order Greater a b c n less equal greater = greater

put_depth : (name : List ℕ) (d : Data) (ms : Members) (n : ℕ) → depth d ≤ n → members_depth ms ≤ n → members_depth (put name d ms) ≤ n
put_depth name d no_members n one rest = omega (arith, one)
put_depth name d (member other e ms) n one rest =
    by_order (slice_cmp nat_cmp name other) (member name d (member other e ms)) (member other d ms) (member other e (put name d ms)) n
    (omega (arith, one, rest)) (omega (arith, one, rest)) (omega (arith, rest, put_depth name d ms n one (omega (arith, rest))))

-- ---- lists and options
abbrev AreShallow : {X : Type 0} → (X → Data) → ℕ → Type 0
AreShallow {X} json n = (x : X) → depth (json x) ≤ n

items_depth_of : {X : Type 0} (json : X → Data) (n : ℕ) → AreShallow json n → (xs : List X) → items_depth (items_of (map json xs)) ≤ n
items_depth_of json n shallow [] = omega arith
items_depth_of json n shallow (x ∷ xs) = omega (arith, shallow x, items_depth_of json n shallow xs)

list_depth : {X : Type 0} (json : X → Data) (n : ℕ) → AreShallow json n → AreShallow (list_json json) (suc n)
list_depth json n shallow xs = omega (arith, items_depth_of json n shallow xs)

option_depth : {X : Type 0} (json : X → Data) (n : ℕ) → AreShallow json n → AreShallow (option_json json) n
option_depth json n shallow None = omega arith
option_depth json n shallow (Some x) = shallow x

optional_depth : {X : Type 0} (name : List ℕ) (json : X → Data) (o : Option X) (ms : Members) (n : ℕ) → AreShallow json n → members_depth ms ≤ n → members_depth (with_optional name json o ms) ≤ n
optional_depth name json None ms n shallow rest = rest
optional_depth name json (Some x) ms n shallow rest = put_depth name (json x) ms n (shallow x) rest

-- ---- records
call_depth : AreShallow call_permission_json 2
call_depth c = omega (arith, list_depth string 0 (λ x. omega arith) c.methods, option_depth amount_json 0 (λ x. omega arith) c.allowance)

permission_depth : AreShallow permission_json 3
permission_depth (Call c) = omega (arith, call_depth c)
permission_depth Full = omega arith

access_key_depth : AreShallow access_key_json 4
access_key_depth k = omega (arith, permission_depth k.permission)

action_depth : AreShallow action_json 6
action_depth CreateAccount = omega arith
action_depth (DeployContract code) = omega arith
action_depth (FunctionCall method args gas deposit) = omega arith
action_depth (Transfer deposit) = omega arith
action_depth (AddKey public_key access_key) = omega (arith, access_key_depth access_key)
action_depth (DeleteKey public_key) = omega arith
action_depth (DeleteAccount beneficiary) = omega arith

transaction_depth : AreShallow transaction_json 8
transaction_depth t = omega (arith, list_depth action_json 6 action_depth t.actions)

-- ---- blocks
chunk_depth : AreShallow chunk_json 9
chunk_depth = option_depth (list_json transaction_json) 9 (list_depth transaction_json 8 transaction_depth)

abbrev unpriced : Block → Members
unpriced b = put (codes "chunks") (list_json chunk_json b.chunks) (put (codes "timestamp") (number_json b.timestamp) (put (codes "height") (number_json b.height.0) no_members))

block_depth : AreShallow block_json 11
block_depth b =
    let rest : members_depth (unpriced b) ≤ 10 = omega (arith, list_depth chunk_json 9 chunk_depth b.chunks) in
    omega (arith, optional_depth (codes "price") number_json b.price (unpriced b) 10 (λ x. omega arith) rest)

abbrev unversioned : BlocksFile → Members
unversioned file = put (codes "blocks") (list_json block_json file.blocks) no_members

version_depth : AreShallow version_json 12
version_depth One = omega arith
version_depth Two = omega arith

plain_depth : AreShallow blocks_json max_depth
plain_depth file =
    let rest : members_depth (unversioned file) ≤ 12 = omega (arith, list_depth block_json 11 block_depth file.blocks) in
    omega (arith, optional_depth (codes "version") version_json (stated_version file.version) (unversioned file) 12 version_depth rest)

reshard_depth : AreShallow reshard_json 2
reshard_depth r = omega (arith, list_depth string 0 (λ x. omega arith) r.layout)

abbrev unresharded : ChainFile → Members
unresharded file = put (codes "version") (number_json 3) (put (codes "blocks") (list_json block_json file.blocks) no_members)

third_depth : AreShallow third_json max_depth
third_depth file =
    let rest : members_depth (unresharded file) ≤ 12 = omega (arith, list_depth block_json 11 block_depth file.blocks) in
    omega (arith, optional_depth (codes "reshard") reshard_json file.reshard (unresharded file) 12 (λ r. omega (arith, reshard_depth r)) rest)

pub stated_depth : AreShallow stated_json max_depth
stated_depth (Plain file) = plain_depth file
stated_depth (Third file) = third_depth file

-- ---- the first state
abbrev tokens : StatedAccount → Members
tokens a = put (codes "locked") (amount_json a.locked) (put (codes "amount") (amount_json a.amount) no_members)

account_depth : (a : StatedAccount) → members_depth (account_members a) ≤ 0
account_depth a =
    let hash = optional_depth (codes "code_hash") hash_json a.code_hash (tokens a) 0 (λ x. omega arith) (omega arith) in
    optional_depth (codes "storage_usage") number_json a.storage_usage (with_optional (codes "code_hash") hash_json a.code_hash (tokens a)) 0 (λ x. omega arith) hash

entry_depth : AreShallow entry_json 5
entry_depth (Account id a) =
    let named = put_depth (codes "account_id") (string id) (account_members a) 0 (omega arith) (account_depth a) in
    omega (arith, put_depth (codes "kind") (string (codes "account")) (put (codes "account_id") (string id) (account_members a)) 0 (omega arith) named)
entry_depth (Code id code) = omega arith
entry_depth (Key id public_key access_key) = omega (arith, access_key_depth access_key)
entry_depth (Datum id key value) = omega arith

pub genesis_depth : AreShallow genesis_json max_depth
genesis_depth g = omega (arith, list_depth string 0 (λ x. omega arith) g.boundaries, list_depth entry_json 5 entry_depth g.entries)
