-- Files can hold a generated chain: each field of its genesis and of its blocks fits.
use Rattle.std.proofs.Common.{◌≡◌, ℕ, zero, suc, ◌+◌, ◌*◌, ◌^◌, ◌<◌, ◌≤◌, Bool, true, false, List, [], ◌∷◌, length, replicate, slice_index, Option, Some, None, refl, sym, ap, ◌∙◌, arith}
use Rattle.std.specs.Prelude.{◌==◌, nat_lt, codes, slice_set, if◌then◌else◌}
use Rattle.std.specs.List.{AllByRecursion}
use Rattle.std.proofs.lemmas.List.{length-append}
use Rattle.std.proofs.lemmas.Str.{IsUtf8-from_ascii, is_utf8-from_IsUtf8}
use Rattle.nr_bytes.proofs.Basics.{all_both}
use Rattle.sha2.proofs.Facts256.{length-sha256}
use Rattle.nr_bytes.specs.Spelling.{FitsList}
use Rattle.nr_config.specs.Config.{generated}
use Rattle.nr_ids.specs.Grammar.{id_fault}
use Rattle.nr_records.specs.Actions.{IsAction}
use Rattle.nr_records.specs.Transactions.{IsTransaction}
use Rattle.nr_records.specs.declared.action.Action.{Action}
use Rattle.nr_records.specs.declared.action.Action.TheVariants.{FunctionCall, Transfer}
use Rattle.nr_records.specs.declared.transaction.Transaction.{Transaction}
use Rattle.nr_blocks.specs.BlocksFiles.{IsBlock, IsChunk, FitsPrice}
use Rattle.nr_blocks.specs.Files.{IsGenesisFile}
use Rattle.nr_blocks.specs.GenesisFiles.{IsEntry}
use Rattle.nr_blocks.specs.Spellings.{AreBlocks, IsGenesis, file_of}
use Rattle.nr_blocks.specs.declared.version.Version.TheVariants.{One}
use Rattle.nr_gen.proofs.Founded.{some, sound_is_founded}
use Rattle.nr_gen.proofs.Founding.{counts_generated, sound_genesis}
use Rattle.nr_gen.proofs.Ids.{contract_is_id, user_is_id}
use Rattle.nr_gen.proofs.Layouts.{fits_layout}
use Rattle.nr_gen.proofs.Modules.{length_code}
use Rattle.nr_gen.proofs.Ordered.{blocks_ordered, length_turns}
use Rattle.nr_gen.specs.Chain.{State, block_of, call_of, chunk_of, generated_blocks, signed_by, transaction_of, transfer_of}
use Rattle.nr_gen.specs.Code.{contract_code}
use Rattle.nr_gen.specs.Draws.{drawn_of, next_number}
use Rattle.nr_gen.specs.Founding.{contract_entries, founding_entries, generated_genesis, shard_entries, user_entries}
use Rattle.nr_gen.specs.Names.{contract_id, user_id}
use Rattle.nr_gen.specs.Turns.{in_turn, joined_below}

-- ---- what holds of what each number gives
all_joined : {X : Type 0} (P : X → Type 0) (n : ℕ) (f : ℕ → List X) → ((k : ℕ) → k < n → AllByRecursion P (f k)) → AllByRecursion P (joined_below n f)
unfolding joined_below
all_joined P zero f each = tt
all_joined P (suc n) f each = all_both P (joined_below n f) (f n) (all_joined P n f (λ k lt. each k (omega arith))) (each n (omega arith))

length_joined : {X : Type 0} (size n : ℕ) (f : ℕ → List X) → ((k : ℕ) → k < n → length (f k) ≡ size) → length (joined_below n f) ≡ n * size
unfolding joined_below
length_joined size zero f each = omega arith
length_joined size (suc n) f each =
    let so_far = length_joined size n f (λ k lt. each k (omega arith)) in
    let last = each n (omega arith) in
    omega (arith, length-append (joined_below n f) (f n), so_far, last)

-- and of values in turn, where I holds of the states
all_turns : {S X : Type 0} (P : X → Type 0) (I : ℕ → S → Type 0) (n : ℕ) (f : ℕ → S → X × S) (s : S) → ((k : ℕ) (s : S) → k < n → I k s → P (f k s).0 × I (suc k) (f k s).1) → I 0 s → AllByRecursion P (in_turn n f s).0 × I n (in_turn n f s).1
unfolding in_turn
all_turns P I zero f s step first = (tt, first)
all_turns P I (suc n) f s step first =
    let before = all_turns P I n f s (λ k s lt. step k s (omega arith)) first in
    let last = step n (in_turn n f s).1 (omega arith) before.1 in
    (all_both P (in_turn n f s).0 ((f n (in_turn n f s).1).0 ∷ []) before.0 (last.0, tt), last.1)

-- ---- the genesis
user_fits : (s k : ℕ) → s < 16 → k < 8 → AllByRecursion IsEntry (user_entries s k)
user_fits s k low small =
    let id = user_is_id s k low small in
    ((id, (omega arith, (omega arith, (refl, omega arith)))), ((id, (refl, (omega arith, tt))), tt))

contract_fits : (s : ℕ) → s < 16 → AllByRecursion IsEntry (contract_entries contract_code s)
contract_fits s low =
    let id = contract_is_id s low in
    ((id, (omega arith, (omega arith, (length-sha256 contract_code, omega (arith, length_code))))), ((id, omega (arith, length_code)), tt))

shard_fits : (s : ℕ) → s < 16 → AllByRecursion IsEntry (shard_entries contract_code s)
unfolding shard_entries
shard_fits s low = all_both IsEntry (joined_below 8 (user_entries s)) (contract_entries contract_code s) (all_joined IsEntry 8 (user_entries s) (λ k small. user_fits s k low small)) (contract_fits s low)

shard_size : (s : ℕ) → length (shard_entries contract_code s) ≡ 18
unfolding shard_entries joined_below
shard_size s = refl

pub genesis_fits : (shards : ℕ) → shards ≤ 16 → IsGenesisFile (file_of (generated_genesis shards))
unfolding founding_entries
genesis_fits shards few =
    let size = length_joined 18 shards (shard_entries contract_code) (λ k lt. shard_size k) in
    (fits_layout shards few, (omega (arith, size), all_joined IsEntry shards (shard_entries contract_code) (λ s lt. shard_fits s (omega arith))))

-- ---- transactions
drawn_below : (bound x : ℕ) → 0 < bound → drawn_of bound x < bound
unfolding drawn_of
drawn_below bound x some = omega arith

-- numbers of 64 bits
abbrev Small : ℕ → Type 0
Small n = n < 256 ^ 8

signed_fits : (s k nonce : ℕ) (receiver : List ℕ) (action : Action) → s < 16 → k < 8 → Small nonce → id_fault receiver ≡ None → IsAction action → IsTransaction (signed_by s k nonce receiver action)
signed_fits s k nonce receiver action low small early known fits = (user_is_id s k low small, (refl, (early, (known, (refl, (omega arith, (fits, tt)))))))

transfer_fits : (s k nonce target x : ℕ) → s < 16 → k < 8 → Small nonce → target < 16 → IsTransaction (transfer_of s nonce k target x).0
unfolding transfer_of
transfer_fits s k nonce target x low small early inside =
    let friend = drawn_below 8 (next_number x) (omega arith) in
    let amount = drawn_below 1000 (next_number (next_number x)) (omega arith) in
    signed_fits s k nonce (user_id target (drawn_of 8 (next_number x))) (Transfer (1 + drawn_of 1000 (next_number (next_number x)))) low small early (user_is_id target _ inside friend) (omega (arith, amount))

send_is_ascii : (i : ℕ) → slice_index (codes "send") i < 128
send_is_ascii zero = omega arith
send_is_ascii (suc zero) = omega arith
send_is_ascii (suc (suc zero)) = omega arith
send_is_ascii (suc (suc (suc zero))) = omega arith
send_is_ascii (suc (suc (suc (suc i)))) = omega arith

call_fits : (s k nonce target : ℕ) → s < 16 → k < 8 → Small nonce → target < 16 → IsTransaction (call_of s nonce k target)
unfolding call_of
call_fits s k nonce target low small early inside =
    signed_fits s k nonce (contract_id s) (FunctionCall (codes "send") (contract_id target) 2000000 0) low small early (contract_is_id s low) ((omega arith, is_utf8-from_IsUtf8 (codes "send") (IsUtf8-from_ascii (codes "send") send_is_ascii)), (omega arith, (omega arith, omega arith)))

transaction_fits : (n s k nonce x : ℕ) → 0 < n → n ≤ 16 → s < 16 → k < 8 → Small nonce → IsTransaction (transaction_of n s nonce k x).0
unfolding transaction_of
transaction_fits n s k nonce x some few low small early =
    let target = drawn_below n (next_number x) some in
    let inside : drawn_of n (next_number x) < 16 = omega arith in
    either (nat_lt k 6) (transfer_of s nonce k (drawn_of n (next_number x)) (next_number x)) (call_of s nonce k (drawn_of n (next_number x)), next_number x)
    (transfer_fits s k nonce (drawn_of n (next_number x)) (next_number x) low small early inside) (call_fits s k nonce (drawn_of n (next_number x)) low small early inside)
  where
    either : (b : Bool) (one two : Transaction × ℕ) → IsTransaction one.0 → IsTransaction two.0 → IsTransaction (if b then one else two).0
    either true one two p q = p
    either false one two p q = q

-- ---- chunks and blocks, where no nonce is above a bound
abbrev AreUpTo : ℕ → State → Type 0
AreUpTo most s = (i : ℕ) → slice_index s.1 i ≤ most

raised : (most shard : ℕ) (xs : List ℕ) (v : ℕ) → ((i : ℕ) → slice_index xs i ≤ most) → v ≤ most + 1 → (i : ℕ) → slice_index (slice_set xs shard v) i ≤ most + 1
raised most shard [] v up small i = omega (arith, up i)
raised most zero (x ∷ xs) v up small zero = small
raised most zero (x ∷ xs) v up small (suc i) = omega (arith, up (suc i))
raised most (suc shard) (x ∷ xs) v up small zero = omega (arith, up 0)
raised most (suc shard) (x ∷ xs) v up small (suc i) = raised most shard xs v (λ j. up (suc j)) small i

chunk_fits : (n shard most : ℕ) (s : State) → n ≤ 16 → shard < n → Small (most + 1) → AreUpTo most s → IsChunk (chunk_of n shard s).0 × AreUpTo (most + 1) (chunk_of n shard s).1
unfolding chunk_of
chunk_fits n shard most s few inside early up =
    let x = next_number s.0 in
    let nonce = slice_index s.1 shard + 1 in
    let small : nonce ≤ most + 1 = omega (arith, up shard) in
    let signed = in_turn 8 (transaction_of n shard nonce) x in
    let all = all_turns IsTransaction (λ k x. Unit {0}) 8 (transaction_of n shard nonce) x (λ k x lt u. (transaction_fits n shard k nonce x (omega arith) few (omega arith) lt (omega arith), tt)) tt in
    let long = length_turns 8 (transaction_of n shard nonce) x in
    either (drawn_of 16 x == 0) (None, (x, s.1)) (Some signed.0, (signed.1, slice_set s.1 shard nonce))
    (tt, λ i. omega (arith, up i)) ((omega (arith, long), all.0), raised most shard s.1 nonce up small)
  where
    either : (b : Bool) (one two : Option (List Transaction) × State) → IsChunk one.0 × AreUpTo (most + 1) one.1 → IsChunk two.0 × AreUpTo (most + 1) two.1 → IsChunk (if b then one else two).0 × AreUpTo (most + 1) (if b then one else two).1
    either true one two p q = p
    either false one two p q = q

block_fits : (n below most : ℕ) (s : State) → n ≤ 16 → below < 256 → most ≤ 4096 → AreUpTo most s → IsBlock One (block_of n below s).0 × AreUpTo (most + n) (block_of n below s).1
unfolding block_of
block_fits n below most s few early low up =
    let all = all_turns IsChunk (λ k. AreUpTo (most + k)) n (chunk_of n) s (λ k s lt up. next k s lt up) (λ i. omega (arith, up i)) in
    let long = length_turns n (chunk_of n) s in
    ((omega arith, (omega arith, (tt, (omega (arith, long), all.0)))), all.1)
  where
    next : (k : ℕ) (s : State) → k < n → AreUpTo (most + k) s → IsChunk (chunk_of n k s).0 × AreUpTo (most + suc k) (chunk_of n k s).1
    next k s lt up = let one = chunk_fits n k (most + k) s few lt (omega arith) up in (one.0, λ i. omega (arith, one.1 i))

zeros : (n i : ℕ) → slice_index (replicate n 0) i ≤ 0
zeros zero i = omega arith
zeros (suc n) zero = omega arith
zeros (suc n) (suc i) = zeros n i

pub blocks_fit : (start n b : ℕ) → n ≤ 16 → b ≤ 256 → FitsList (IsBlock One) (generated_blocks start n b)
unfolding generated_blocks
blocks_fit start n b few short =
    let s : State = (start, replicate n 0) in
    let all = all_turns (IsBlock One) (λ k. AreUpTo (16 * k)) b (block_of n) s next (λ i. omega (arith, zeros n i)) in
    let long = length_turns b (block_of n) s in
    (omega (arith, long), all.0)
  where
    next : (k : ℕ) (s : State) → k < b → AreUpTo (16 * k) s → IsBlock One (block_of n k s).0 × AreUpTo (16 * suc k) (block_of n k s).1
    next k s lt up = let one = block_fits n k (16 * k) s few (omega arith) (omega arith) up in (one.0, λ i. omega (arith, one.1 i))

-- ---- both files
pub genesis_filed : (shards : ℕ) → shards ≤ 16 → IsGenesis generated (generated_genesis shards)
genesis_filed shards few =
    let sound = sound_genesis generated counts_generated shards few in
    record {
      fits = genesis_fits shards few;
      founded = sound_is_founded generated (generated_genesis shards).entries sound.entries ∙ ap some (sym sound.tokens);
    }

pub blocks_filed : (start shards n : ℕ) → shards ≤ 16 → n ≤ 256 → AreBlocks One shards (generated_blocks start shards n)
blocks_filed start shards n few short = record { fits = blocks_fit start shards n few short; ordered = blocks_ordered start shards n short }

-- ---- no block has a price
pub prices_fit : (start shards n : ℕ) → AllByRecursion FitsPrice (generated_blocks start shards n)
unfolding generated_blocks block_of
prices_fit start shards n = (all_turns FitsPrice (λ k s. Unit {0}) n (block_of shards) (start, replicate shards 0) (λ k s lt u. (tt, tt)) tt).0
