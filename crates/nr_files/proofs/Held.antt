-- What is spelled by bytes fits the JSON form.
use Rattle.std.proofs.Common.{ℕ, suc, List, [], ◌∷◌, ◌++◌, length, map, Some, None, refl, subst}
use Rattle.std.specs.List.{flat_map, AllByRecursion}
use Rattle.std.proofs.Math.Seq.{drop-append_seam}
use Rattle.std.proofs.lemmas.List.Concat.{flat_map-cons}
use Rattle.nr_bytes.specs.Numbers.{little, IsBytes}
use Rattle.nr_bytes.specs.Spelling.{list, FitsList}
use Rattle.nr_bytes.specs.Writing.{counted_bytes}
use Rattle.nr_bytes.proofs.Steps.{IsBytes-front, IsBytes-drop}
use Rattle.nr_ids.specs.Keys.{hash_bytes, key_bytes, IsKey}
use Rattle.nr_ids.specs.declared.key.PublicKey.TheVariants.{Ed25519, Secp256k1}
use Rattle.nr_records.specs.AccessKeys.{access_key_bytes, IsPermission}
use Rattle.nr_records.specs.Accounts.{account_bytes}
use Rattle.nr_records.specs.Actions.{action_bytes, IsAction}
use Rattle.nr_records.specs.Options.{option_bytes, IsOption}
use Rattle.nr_records.specs.Transactions.{transaction_bytes, IsTransaction}
use Rattle.nr_records.specs.declared.access_key.Permission.{Permission}
use Rattle.nr_records.specs.declared.access_key.Permission.TheVariants.{Call, Full}
use Rattle.nr_records.specs.declared.action.Action.TheVariants.{CreateAccount, DeployContract, FunctionCall, Transfer, AddKey, DeleteKey, DeleteAccount}
use Rattle.nr_layout.specs.Reading.{layout_bytes}
use Rattle.nr_blocks.specs.BlocksFiles.{chunk_bytes, IsChunk, price_bytes, block_bytes, IsBlock}
use Rattle.nr_blocks.specs.Files.{blocks_magic, blocks_bytes, IsBlocksFile, genesis_magic, genesis_bytes, IsGenesisFile}
use Rattle.nr_blocks.specs.GenesisFiles.{entry_bytes, IsEntry}
use Rattle.nr_blocks.specs.declared.genesis_entry.GenesisEntry.TheVariants as kind
use Rattle.nr_blocks.specs.declared.genesis_file.GenesisFile.{GenesisFile}
use Rattle.nr_blocks.specs.declared.version.Version.{Version}
use Rattle.nr_blocks.specs.declared.version.Version.TheVariants.{Two}
use Rattle.nr_reshard.specs.Files.{IsThird, reshard_bytes, third_bytes, third_magic}
use Rattle.nr_json.specs.Fits.{FitsKey, FitsPermission, FitsAction, FitsTransaction}
use Rattle.nr_json.specs.FitsFiles.{FitsBlock, FitsBlocks, FitsEntry, FitsGenesis, FitsStated, FitsThird}
use Rattle.nr_json.specs.declared.chain_file.StatedBlocks.{StatedBlocks}
use Rattle.nr_json.specs.declared.chain_file.StatedBlocks.TheVariants.{Plain, Third}
use Rattle.nr_files.specs.Filling.{stated_entry, stated}
use Rattle.nr_files.specs.Versions.{stated_bytes}

-- ---- parts of bytes
front : (a b : List ℕ) → IsBytes (a ++ b) → IsBytes a
front a b h = IsBytes-front (a ++ b) a b h refl

behind : (a b : List ℕ) → IsBytes (a ++ b) → IsBytes b
behind a b h = subst IsBytes (drop-append_seam a b) (IsBytes-drop (length a) (a ++ b) h)

after : (b : ℕ) (bytes : List ℕ) → IsBytes (b ∷ bytes) → IsBytes bytes
after b bytes h i = h (suc i)

counted : (bytes : List ℕ) → IsBytes (counted_bytes bytes) → IsBytes bytes
counted bytes h = behind (little 4 (length bytes)) bytes h

-- ---- lists and options
abbrev Held : {X : Type 0} → (X → List ℕ) → (X → Type 0) → (X → Type 0) → Type 0
Held {X} spelling is fits = (x : X) → is x → IsBytes (spelling x) → fits x

each_held : {X : Type 0} (spelling : X → List ℕ) (is fits : X → Type 0) → Held spelling is fits → (xs : List X) → AllByRecursion is xs → IsBytes (flat_map spelling xs) → AllByRecursion fits xs
each_held spelling is fits held [] all h = tt
each_held spelling is fits held (x ∷ xs) all h =
    let parts : IsBytes (spelling x ++ flat_map spelling xs) = subst IsBytes (flat_map-cons spelling x xs) h in
    (held x all.0 (front (spelling x) (flat_map spelling xs) parts), each_held spelling is fits held xs all.1 (behind (spelling x) (flat_map spelling xs) parts))

list_held : {X : Type 0} (spelling : X → List ℕ) (is fits : X → Type 0) → Held spelling is fits → Held (list spelling) (FitsList is) (AllByRecursion fits)
list_held spelling is fits held xs all h = each_held spelling is fits held xs all.1 (behind (little 4 (length xs)) (flat_map spelling xs) h)

option_held : {X : Type 0} (spelling : X → List ℕ) (is fits : X → Type 0) → Held spelling is fits → Held (option_bytes spelling) (IsOption is) (IsOption fits)
option_held spelling is fits held None all h = tt
option_held spelling is fits held (Some x) all h = held x all (after 1 (spelling x) h)

-- ---- records
key_held : Held key_bytes IsKey FitsKey
key_held (Ed25519 key) is h = (is, after 0 key h)
key_held (Secp256k1 key) is h = (is, after 1 key h)

permission_held : (p : Permission) → IsPermission p → FitsPermission p
permission_held (Call c) is = is.0
permission_held Full is = tt

action_held : Held action_bytes IsAction FitsAction
action_held CreateAccount is h = tt
action_held (DeployContract code) is h = counted code (after 1 (counted_bytes code) h)
action_held (FunctionCall method args gas deposit) is h =
    let parts : IsBytes (counted_bytes method ++ (counted_bytes args ++ (little 8 gas ++ little 16 deposit))) =
    after 2 (counted_bytes method ++ (counted_bytes args ++ (little 8 gas ++ little 16 deposit))) h in
    let bytes : IsBytes (counted_bytes args ++ (little 8 gas ++ little 16 deposit)) = behind (counted_bytes method) (counted_bytes args ++ (little 8 gas ++ little 16 deposit)) parts in
    (counted args (front (counted_bytes args) (little 8 gas ++ little 16 deposit) bytes), is.1.1.1)
action_held (Transfer deposit) is h = is
action_held (AddKey public_key access_key) is h =
    (key_held public_key is.0 (front (key_bytes public_key) (access_key_bytes access_key) (after 5 (key_bytes public_key ++ access_key_bytes access_key) h)), permission_held access_key.permission is.1.1)
action_held (DeleteKey public_key) is h = key_held public_key is (after 6 (key_bytes public_key) h)
action_held (DeleteAccount beneficiary) is h = is

transaction_held : Held transaction_bytes IsTransaction FitsTransaction
transaction_held t is h =
    let actions = list action_bytes t.actions in
    let hash = hash_bytes t.block_hash ++ actions in
    let receiver = counted_bytes t.receiver ++ hash in
    let nonce = little 8 t.nonce ++ receiver in
    let one : IsBytes (key_bytes t.public_key ++ nonce) = behind (counted_bytes t.signer) (key_bytes t.public_key ++ nonce) h in
    let two : IsBytes hash = behind (counted_bytes t.receiver) hash (behind (little 8 t.nonce) receiver (behind (key_bytes t.public_key) nonce one)) in
    record {
      signer = is.0;
      public_key = key_held t.public_key is.1.0 (front (key_bytes t.public_key) nonce one);
      receiver = is.1.1.1.0;
      block_hash = (is.1.1.1.1.0, front (hash_bytes t.block_hash) actions two);
      actions = list_held action_bytes IsAction FitsAction action_held t.actions is.1.1.1.1.1 (behind (hash_bytes t.block_hash) actions two);
    }

-- ---- blocks
chunk_held : Held chunk_bytes IsChunk (IsOption (AllByRecursion FitsTransaction))
chunk_held = option_held (list transaction_bytes) (FitsList IsTransaction) (AllByRecursion FitsTransaction) (list_held transaction_bytes IsTransaction FitsTransaction transaction_held)

block_held : (version : Version) → Held block_bytes (IsBlock version) (FitsBlock version)
block_held version b is h =
    let chunks = list chunk_bytes b.chunks in
    let priced = price_bytes b.price ++ chunks in
    let rest : IsBytes priced = behind (little 8 b.timestamp) priced (behind (little 8 b.height.0) (little 8 b.timestamp ++ priced) h) in
    (is.1.1.0, list_held chunk_bytes IsChunk (IsOption (AllByRecursion FitsTransaction)) chunk_held b.chunks is.1.1.1 (behind (price_bytes b.price) chunks rest))

plain_held : Held blocks_bytes IsBlocksFile FitsBlocks
plain_held file is h =
    list_held block_bytes (IsBlock file.version) (FitsBlock file.version) (block_held file.version) file.blocks is (behind (blocks_magic file.version) (list block_bytes file.blocks) h)

third_held : Held third_bytes IsThird FitsThird
third_held file is h =
    let reshard = option_bytes reshard_bytes file.reshard in
    let blocks = list block_bytes file.blocks in
    (list_held block_bytes (IsBlock Two) (FitsBlock Two) (block_held Two) file.blocks is.1 (behind reshard blocks (behind third_magic (reshard ++ blocks) h)), is.0)

abbrev pub IsStated : StatedBlocks → Type 0
IsStated (Plain file) = IsBlocksFile file
IsStated (Third file) = IsThird file

pub stated_held : Held stated_bytes IsStated FitsStated
stated_held (Plain file) is h = plain_held file is h
stated_held (Third file) is h = third_held file is h

-- ---- the first state
entry_held : Held entry_bytes IsEntry (λ e. FitsEntry (stated_entry e))
entry_held (kind.Account id a) is h =
    let usage = little 8 a.storage_usage in
    let hash = hash_bytes a.code_hash ++ usage in
    let locked = little 16 a.locked ++ hash in
    let parts : IsBytes (account_bytes a) = behind (counted_bytes id) (account_bytes a) (after 0 (counted_bytes id ++ account_bytes a) h) in
    let bytes : IsBytes hash = behind (little 16 a.locked) hash (behind (little 16 a.amount) locked parts) in
    (is.0, (is.1.0, is.1.1.0, (is.1.1.1.0, front (hash_bytes a.code_hash) usage bytes)))
entry_held (kind.Code id code) is h = (is.0, counted code (behind (counted_bytes id) (counted_bytes code) (after 1 (counted_bytes id ++ counted_bytes code) h)))
entry_held (kind.Key id key access) is h =
    let parts : IsBytes (key_bytes key ++ access_key_bytes access) =
    behind (counted_bytes id) (key_bytes key ++ access_key_bytes access) (after 2 (counted_bytes id ++ (key_bytes key ++ access_key_bytes access)) h) in
    (is.0, key_held key is.1.0 (front (key_bytes key) (access_key_bytes access) parts), permission_held access.permission is.1.1.1)
entry_held (kind.Datum id key value) is h =
    let parts : IsBytes (counted_bytes key ++ counted_bytes value) =
    behind (counted_bytes id) (counted_bytes key ++ counted_bytes value) (after 3 (counted_bytes id ++ (counted_bytes key ++ counted_bytes value)) h) in
    (is.0, counted key (front (counted_bytes key) (counted_bytes value) parts), counted value (behind (counted_bytes key) (counted_bytes value) parts))

all_mapped : {X Y : Type 0} (to : X → Y) (P : Y → Type 0) (xs : List X) → AllByRecursion (λ x. P (to x)) xs → AllByRecursion P (map to xs)
all_mapped to P [] all = tt
all_mapped to P (x ∷ xs) all = (all.0, all_mapped to P xs all.1)

pub genesis_held : (f : GenesisFile) → IsGenesisFile f → IsBytes (genesis_bytes f) → FitsGenesis (stated f)
genesis_held f is h =
    let entries = list entry_bytes f.entries in
    let parts : IsBytes (layout_bytes f.layout ++ entries) = behind genesis_magic (layout_bytes f.layout ++ entries) h in
    record {
      boundaries = is.0.1;
      entries = all_mapped stated_entry FitsEntry f.entries (list_held entry_bytes IsEntry (λ e. FitsEntry (stated_entry e)) entry_held f.entries is.1 (behind (layout_bytes f.layout) entries parts));
    }
