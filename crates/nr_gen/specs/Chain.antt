-- The blocks of a generated chain, of which each draw stands behind the one before it. This project's own.
use Rattle.std.specs.Prelude.{ℕ, ◌+◌, ◌*◌, ◌^◌, ◌==◌, List, [], ◌∷◌, Option, Some, None, nat_lt, if◌then◌else◌}
use Rattle.std.specs.Prelude.{replicate, slice_index, slice_set, codes}
use Rattle.nr_records.specs.declared.action.Action.{Action}
use Rattle.nr_records.specs.declared.action.Action.TheVariants.{FunctionCall, Transfer}
use Rattle.nr_records.specs.declared.transaction.Transaction.{Transaction}
use Rattle.nr_state.specs.Usage.{zero_hash}
use Rattle.nr_blocks.specs.declared.block.Block.{Block}
use Rattle.nr_gen.specs.Draws.{draw}
use Rattle.nr_gen.specs.Names.{contract_id, user_id, user_key}
use Rattle.nr_gen.specs.Turns.{in_turn}

-- ---- transactions; target is the shard of the one that is paid or named
abbrev pub signed_by : ℕ → ℕ → ℕ → List ℕ → Action → Transaction
signed_by shard user nonce receiver action =
    record {
      signer = user_id shard user;
      public_key = user_key shard user;
      nonce = nonce;
      receiver = receiver;
      block_hash = zero_hash;
      actions = action ∷ [];
    }

-- a user of the target, and 1 to 1000 tokens, both drawn
unfoldable pub transfer_of : ℕ → ℕ → ℕ → ℕ → ℕ → Transaction × ℕ
transfer_of shard nonce user target x =
    let friend = draw 8 x in
    let amount = draw 1000 friend.1 in
    (signed_by shard user nonce (user_id target friend.0) (Transfer (1 + amount.0)), amount.1)

-- the own contract is told the target's
unfoldable pub call_of : ℕ → ℕ → ℕ → ℕ → Transaction
call_of shard nonce user target =
    signed_by shard user nonce (contract_id shard) (FunctionCall (codes "send") (contract_id target) 2000000 0)

-- of the users six pay and two call
unfoldable pub transaction_of : ℕ → ℕ → ℕ → ℕ → ℕ → Transaction × ℕ
transaction_of shards shard nonce user x =
    let target = draw shards x in
    if nat_lt user 6 then transfer_of shard nonce user target.0 target.1 else (
      call_of shard nonce user target.0,
      target.1,
    )

-- ---- chunks and blocks: the state is the number from which is drawn, and the last nonce that the users of each
-- shard signed with
abbrev pub State : Type 0
State = ℕ × List ℕ

-- a draw of 16 leaves it out; else each user of the shard signs with the nonce behind its last
unfoldable pub chunk_of : ℕ → ℕ → State → Option (List Transaction) × State
chunk_of shards shard s =
    let present = draw 16 s.0 in
    let nonce = slice_index s.1 shard + 1 in
    let signed = in_turn 8 (transaction_of shards shard nonce) present.1 in
    if present.0 == 0 then (None, (present.1, s.1)) else (Some signed.0, (signed.1, slice_set s.1 shard nonce))

-- heights count from 1, a block comes each second, and none has a price
unfoldable pub block_of : ℕ → ℕ → State → Block × State
block_of shards below s =
    let height = below + 1 in
    let chunks = in_turn shards (chunk_of shards) s in
    (record { height = record { 0 = height }; timestamp = height * 10 ^ 9; price = None; chunks = chunks.0 }, chunks.1)

unfoldable pub generated_blocks : ℕ → ℕ → ℕ → List Block
generated_blocks start shards blocks = (in_turn blocks (block_of shards) (start, replicate shards 0)).0
