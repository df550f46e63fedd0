-- What stands for a file is read as the file.
use Rattle.std.proofs.Common.{◌≡◌, ℕ, ◌+◌, List, [], ◌∷◌, Option, Some, None, Ok, refl}
use Rattle.std.specs.List.{AllByRecursion}
use Rattle.std.specs.Prelude.{codes}
use Rattle.nr_ids.specs.declared.key.Hash32.{Hash32}
use Rattle.nr_records.specs.Ids.{IsId}
use Rattle.nr_records.specs.Options.{IsOption}
use Rattle.nr_blocks.specs.BlocksFiles.{Chunk, IsPrice}
use Rattle.nr_blocks.specs.Judging.{each_from}
use Rattle.nr_blocks.specs.declared.block.Block.{Block}
use Rattle.nr_blocks.specs.declared.blocks_file.BlocksFile.{BlocksFile}
use Rattle.nr_blocks.specs.declared.version.Version.{Version}
use Rattle.nr_blocks.specs.declared.version.Version.TheVariants.{One, Two}
use Rattle.serde_json.specs.Data.{string, object, Members}
use Rattle.nr_json.specs.Fits.{FitsTransaction}
use Rattle.nr_json.specs.FitsFiles.{FitsBlock, FitsEntry, FitsGenesis}
use Rattle.nr_json.specs.Members.{member_of, optional_of}
use Rattle.nr_json.specs.Plain.{number_of, amount_json, amount_of, text_of, bytes_json, bytes_of}
use Rattle.nr_json.specs.Keys.{id_of, hash_json, hash_of, key_json, key_of}
use Rattle.nr_json.specs.Lists.{list_json, list_of}
use Rattle.nr_json.specs.AccessKeys.{access_key_json, access_key_of}
use Rattle.nr_json.specs.Transactions.{transaction_json, transaction_of}
use Rattle.nr_json.specs.Blocks.{chunk_json, chunk_of, block_members, block_json, block_of, version_of_price, version_by, price_in, has_price, file_in, blocks_members, blocks_json, blocks_of}
use Rattle.nr_json.specs.Genesis.{account_of, account_entry_of, code_entry_of, key_entry_of, datum_entry_of, entry_members, entry_json, entry_of, genesis_members, genesis_json, genesis_of}
use Rattle.nr_json.specs.declared.genesis.StatedAccount.{StatedAccount}
use Rattle.nr_json.specs.declared.genesis.StatedEntry.TheVariants.{Account, Code, Key, Datum}
use Rattle.nr_json.proofs.PlainLaws.{Law, amount_law, bytes_law, hash_law, key_law, id_law, list_law, option_law, member_is, optional_is}
use Rattle.nr_json.proofs.RecordLaws.{access_key_law, transaction_law}

-- ---- blocks
chunk_law : Law chunk_json chunk_of (IsOption (AllByRecursion FitsTransaction))
chunk_law = option_law (list_json transaction_json) (list_of transaction_of) (AllByRecursion FitsTransaction) (λ x. refl) (list_law transaction_json transaction_of FitsTransaction transaction_law)

abbrev block_with : ℕ → ℕ → Option ℕ → List Chunk → Block
block_with height timestamp price chunks = record { height = record { 0 = height }; timestamp = timestamp; price = price; chunks = chunks }

block_case : (height timestamp : ℕ) (price : Option ℕ) (chunks : List Chunk) → AllByRecursion (IsOption (AllByRecursion FitsTransaction)) chunks
    → block_of (block_json (block_with height timestamp price chunks)) ≡ Ok (block_with height timestamp price chunks)
unfolding block_of
block_case height timestamp None chunks fits =
    rw (member_is (codes "chunks") (list_of chunk_of) (block_members (block_with height timestamp None chunks)) (list_json chunk_json chunks) chunks refl (list_law chunk_json chunk_of (IsOption (AllByRecursion FitsTransaction)) chunk_law chunks fits)) refl
block_case height timestamp (Some price) chunks fits =
    rw (member_is (codes "chunks") (list_of chunk_of) (block_members (block_with height timestamp (Some price) chunks)) (list_json chunk_json chunks) chunks refl (list_law chunk_json chunk_of (IsOption (AllByRecursion FitsTransaction)) chunk_law chunks fits)) refl

pub block_law : (version : Version) → Law block_json block_of (FitsBlock version)
block_law version b fits = block_case b.height.0 b.timestamp b.price b.chunks fits.1

price_passes : (version : Version) (price : Option ℕ) → IsPrice version price → price_in version price ≡ Ok tt
price_passes One None fits = refl
price_passes One (Some price) fits = absurd fits
price_passes Two None fits = absurd fits
price_passes Two (Some price) fits = refl

pub prices_pass : (version : Version) (n : ℕ) (bs : List Block) → AllByRecursion (FitsBlock version) bs → each_from (has_price version) n bs ≡ Ok tt
unfolding each_from
prices_pass version n [] all = refl
prices_pass version n (b ∷ bs) all = rw (price_passes version b.price all.0.0, prices_pass version (n + 1) bs all.1) refl

file_is : (version : Version) (bs : List Block) → AllByRecursion (FitsBlock version) bs → file_in version bs ≡ Ok (record { version = version; blocks = bs })
unfolding file_in
file_is version bs all = rw (prices_pass version 0 bs all) refl

version_of_none : (price : Option ℕ) → IsPrice One price → version_of_price price ≡ One
version_of_none None fits = refl
version_of_none (Some price) fits = absurd fits

first_says : (bs : List Block) → AllByRecursion (FitsBlock One) bs → version_by None bs ≡ One
first_says [] all = refl
first_says (b ∷ bs) all = version_of_none b.price all.0.0

abbrev pub file_with : Version → List Block → BlocksFile
file_with version blocks = record { version = version; blocks = blocks }

pub blocks_case : (version : Version) (bs : List Block) → AllByRecursion (FitsBlock version) bs → blocks_of (blocks_json (file_with version bs)) ≡ Ok (file_with version bs)
unfolding blocks_of
blocks_case One bs fits =
    rw (member_is (codes "blocks") (list_of block_of) (blocks_members (file_with One bs)) (list_json block_json bs) bs refl (list_law block_json block_of (FitsBlock One) (block_law One) bs fits), first_says bs fits) (file_is One bs fits)
blocks_case Two bs fits =
    rw (member_is (codes "blocks") (list_of block_of) (blocks_members (file_with Two bs)) (list_json block_json bs) bs refl (list_law block_json block_of (FitsBlock Two) (block_law Two) bs fits)) (file_is Two bs fits)

-- ---- the first state
account_is : (ms : Members) (id : List ℕ) (a : StatedAccount) → member_of (codes "kind") text_of (object ms) ≡ Ok (codes "account") → member_of (codes "account_id") id_of (object ms) ≡ Ok id
    → member_of (codes "amount") amount_of (object ms) ≡ Ok a.amount → member_of (codes "locked") amount_of (object ms) ≡ Ok a.locked
    → optional_of (codes "code_hash") hash_of (object ms) ≡ Ok a.code_hash → optional_of (codes "storage_usage") number_of (object ms) ≡ Ok a.storage_usage → entry_of (object ms) ≡ Ok (Account id a)
unfolding entry_of account_entry_of account_of
account_is ms id a kind name amount locked hash usage = rw (kind, name, amount, locked, hash, usage) refl

abbrev account_with : ℕ → ℕ → Option Hash32 → Option ℕ → StatedAccount
account_with amount locked hash usage = record { amount = amount; locked = locked; code_hash = hash; storage_usage = usage }

account_law : (id : List ℕ) (amount locked : ℕ) (hash : Option Hash32) (usage : Option ℕ) → FitsEntry (Account id (account_with amount locked hash usage))
    → entry_of (entry_json (Account id (account_with amount locked hash usage))) ≡ Ok (Account id (account_with amount locked hash usage))
account_law id amount locked None None fits =
    account_is (entry_members (Account id (account_with amount locked None None))) id (account_with amount locked None None) refl
    (member_is (codes "account_id") id_of (entry_members (Account id (account_with amount locked None None))) (string id) id refl (id_law id fits.0))
    (member_is (codes "amount") amount_of (entry_members (Account id (account_with amount locked None None))) (amount_json amount) amount refl (amount_law amount fits.1.0))
    (member_is (codes "locked") amount_of (entry_members (Account id (account_with amount locked None None))) (amount_json locked) locked refl (amount_law locked fits.1.1))
    refl refl
account_law id amount locked None (Some n) fits =
    account_is (entry_members (Account id (account_with amount locked None (Some n)))) id (account_with amount locked None (Some n)) refl
    (member_is (codes "account_id") id_of (entry_members (Account id (account_with amount locked None (Some n)))) (string id) id refl (id_law id fits.0))
    (member_is (codes "amount") amount_of (entry_members (Account id (account_with amount locked None (Some n)))) (amount_json amount) amount refl (amount_law amount fits.1.0))
    (member_is (codes "locked") amount_of (entry_members (Account id (account_with amount locked None (Some n)))) (amount_json locked) locked refl (amount_law locked fits.1.1))
    refl refl
account_law id amount locked (Some h) None fits =
    account_is (entry_members (Account id (account_with amount locked (Some h) None))) id (account_with amount locked (Some h) None) refl
    (member_is (codes "account_id") id_of (entry_members (Account id (account_with amount locked (Some h) None))) (string id) id refl (id_law id fits.0))
    (member_is (codes "amount") amount_of (entry_members (Account id (account_with amount locked (Some h) None))) (amount_json amount) amount refl (amount_law amount fits.1.0))
    (member_is (codes "locked") amount_of (entry_members (Account id (account_with amount locked (Some h) None))) (amount_json locked) locked refl (amount_law locked fits.1.1))
    (optional_is (codes "code_hash") hash_of (entry_members (Account id (account_with amount locked (Some h) None))) (hash_json h) h refl (hash_law h fits.1.2)) refl
account_law id amount locked (Some h) (Some n) fits =
    account_is (entry_members (Account id (account_with amount locked (Some h) (Some n)))) id (account_with amount locked (Some h) (Some n)) refl
    (member_is (codes "account_id") id_of (entry_members (Account id (account_with amount locked (Some h) (Some n)))) (string id) id refl (id_law id fits.0))
    (member_is (codes "amount") amount_of (entry_members (Account id (account_with amount locked (Some h) (Some n)))) (amount_json amount) amount refl (amount_law amount fits.1.0))
    (member_is (codes "locked") amount_of (entry_members (Account id (account_with amount locked (Some h) (Some n)))) (amount_json locked) locked refl (amount_law locked fits.1.1))
    (optional_is (codes "code_hash") hash_of (entry_members (Account id (account_with amount locked (Some h) (Some n)))) (hash_json h) h refl (hash_law h fits.1.2)) refl

entry_law : Law entry_json entry_of FitsEntry
unfolding entry_of code_entry_of key_entry_of datum_entry_of
entry_law (Account id a) fits = account_law id a.amount a.locked a.code_hash a.storage_usage fits
entry_law (Code id code) fits =
    let name = member_is (codes "account_id") id_of (entry_members (Code id code)) (string id) id refl (id_law id fits.0) in
    let bytes = member_is (codes "code") bytes_of (entry_members (Code id code)) (bytes_json code) code refl (bytes_law code fits.1) in
    rw (name, bytes) refl
entry_law (Key id public_key access_key) fits =
    let name = member_is (codes "account_id") id_of (entry_members (Key id public_key access_key)) (string id) id refl (id_law id fits.0) in
    let key = member_is (codes "public_key") key_of (entry_members (Key id public_key access_key)) (key_json public_key) public_key refl (key_law public_key fits.1) in
    let access = member_is (codes "access_key") access_key_of (entry_members (Key id public_key access_key)) (access_key_json access_key) access_key refl (access_key_law access_key fits.2) in
    rw (name, key, access) refl
entry_law (Datum id key value) fits =
    let name = member_is (codes "account_id") id_of (entry_members (Datum id key value)) (string id) id refl (id_law id fits.0) in
    let one = member_is (codes "key") bytes_of (entry_members (Datum id key value)) (bytes_json key) key refl (bytes_law key fits.1) in
    let two = member_is (codes "value") bytes_of (entry_members (Datum id key value)) (bytes_json value) value refl (bytes_law value fits.2) in
    rw (name, one, two) refl

pub genesis_law : Law genesis_json genesis_of FitsGenesis
unfolding genesis_of
genesis_law g fits =
    let boundaries = member_is (codes "boundaries") (list_of id_of) (genesis_members g) (list_json string g.boundaries) g.boundaries refl (list_law string id_of IsId id_law g.boundaries fits.boundaries) in
    let entries = member_is (codes "entries") (list_of entry_of) (genesis_members g) (list_json entry_json g.entries) g.entries refl (list_law entry_json entry_of FitsEntry entry_law g.entries fits.entries) in
    rw (boundaries, entries) refl
